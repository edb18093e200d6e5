-- The events of a script, and which event of a scene each of them is.
use Rattle.std.specs.Prelude.{ℕ, Bool, true, false, ◌≤◌, List, [], ◌∷◌, length, ◌≡◌, Some, Result, Ok, Err}
use Rattle.sr_cell.specs.declared.fault.Fault.{Fault}
use Rattle.sr_message.specs.declared.message.Message.{Message}
use Rattle.sr_message.specs.declared.message.Message.TheVariants.{Write}
use Rattle.sr_model.specs.Queries.{Query}
use Rattle.sr_model.specs.Statements.{Tables, executed}
use Rattle.sr_model.specs.Statements.{Write as Statement}
use Rattle.sr_lines.specs.Events.{ScriptEvent, DoExec, DoQuery, DoWrite, DoPush, DoToServer, DoToClient, DoEvict, DoCut, DoResume}
use Rattle.sr_lines.specs.Script.{Writes}
use Rattle.sr_session.specs.Sessions.{Database, newest, tables_of}
use Rattle.sr_session.specs.Clients.{Pair}
use Rattle.sr_session.specs.Scenes.{CutOf, Event, EvictOf, Exec, PushTo, QueryOf, ResumeOf, Scene, ToClient, ToServer, WriteOf, pair_at}
use Rattle.sr_session.specs.Texts.{most_text}

-- what a statement makes of the newest tables, or why it is refused
abbrev pub result_of : Database → Result Statement Fault → Result Tables Fault
result_of db (Ok statement) = executed db.schema statement (tables_of db (newest db))
result_of db (Err fault) = Err fault

abbrev pub is_write : Message → Bool
is_write (Write number sql) = true
is_write other = false

abbrev pub begins_with_write : List Message → Bool
begins_with_write [] = false
begins_with_write (m ∷ queue) = is_write m

-- What the oldest message of a queue gives as a statement, once the server takes it: a write has what its text says to the schema, on
-- the newest tables. What is no write changes nothing.
pub data Gives (db : Database) : List Message → Result Tables Fault → Type 0 where
  gives : (number : ℕ) (sql : List ℕ) (queue : List Message) (statement : Result Statement Fault) → Writes db.schema sql statement
      → Gives db (Write number sql ∷ queue) (result_of db statement)
  gives_nothing : (queue : List Message) → begins_with_write queue ≡ false → Gives db queue (Ok (tables_of db (newest db)))

-- The event of the scene that an event of a script is there. A settle is none: it is deliveries.
pub data Is (s : Scene) : ScriptEvent → Event → Type 0 where
  is_exec : (statement : Result Statement Fault) → Is s (DoExec statement) (Exec (result_of s.database statement))
  is_query : (n : ℕ) (query : Result Query Fault) → Is s (DoQuery n query) (QueryOf n query)
  is_write_of : (n : ℕ) (sql : List ℕ) → length sql ≤ most_text → Is s (DoWrite n sql) (WriteOf n sql)
  is_push : (n : ℕ) → Is s (DoPush n) (PushTo n)
  is_to_server : (n : ℕ) (pair : Pair) (result : Result Tables Fault) → pair_at s n ≡ Some pair → Gives s.database pair.connection.to_server result
      → Is s (DoToServer n) (ToServer n result)
  is_to_client : (n : ℕ) → Is s (DoToClient n) (ToClient n)
  is_evict : (n place : ℕ) → Is s (DoEvict n place) (EvictOf n place)
  is_cut : (n : ℕ) → Is s (DoCut n) (CutOf n)
  is_resume : (n : ℕ) → Is s (DoResume n) (ResumeOf n)
