-- What a script that was read stands for.
use Rattle.std.specs.Prelude.{ℕ, ◌≡◌, ◌≤◌, ◌&&◌, Bool, true, nat_lt, List, length, Result, Ok, Err, IsTrue}
use Rattle.std.specs.List.{list_all, AllZip}
use Rattle.sr_cell.specs.declared.fault.Fault.{Fault}
use Rattle.sr_cell.specs.declared.table.Table.{Table}
use Rattle.sr_model.specs.Queries as model
use Rattle.sr_model.specs.Statements as statements
use Rattle.sr_lines.specs.Events.{ScriptEvent, DoExec, DoQuery, DoWrite, DoExplain, DoPush, DoToServer, DoToClient, DoSettle, DoEvict, DoCut, DoResume}
use Rattle.sr_query.specs.Bound.{is_table, IsQuery}
use Rattle.sr_query.specs.Joined.{is_joined}
use Rattle.sr_query.specs.declared.query.Query.{Query}
use Rattle.sr_query.specs.declared.write.Write.{Write}
use Rattle.sr_query.specs.declared.write.Write.TheVariants as writes
use Rattle.sr_query.specs.Writes.{suits}
use Rattle.sr_query.specs.Written.{write_of}
use Rattle.sr_lines.specs.Lines.{lines_of}
use Rattle.sr_lines.specs.Own.{needs_own}
use Rattle.sr_lines.specs.Sound.{is_sound}
pub use Rattle.sr_lines.specs.Parts.{is_client}
use Rattle.sr_lines.specs.Script.{Phase, start_phase, Reads}
use Rattle.sr_reader.specs.declared.script.Event as code
use Rattle.sr_reader.specs.declared.script.Event.TheVariants as read
use Rattle.sr_reader.specs.declared.script.EventLine.{EventLine}
use Rattle.sr_reader.specs.declared.script.Script.{Script}

-- a bound statement, or the fault of its text, stands for this one
abbrev pub statement_of : Result Write Fault → Result statements.Write Fault
statement_of (Ok w) = Ok (write_of w)
statement_of (Err fault) = Err fault

-- a bound query, or the fault of its text, stands for this one
abbrev pub Means : List Table → Result Query Fault → Result model.Query Fault → Type 0
Means tables (Ok q) (Ok meaning) =
    IsQuery tables q meaning × IsTrue (is_joined tables meaning) × (length meaning.parts ≤ 4) × IsTrue (is_sound tables meaning)
    × IsTrue (needs_own tables meaning)
Means tables (Ok q) (Err fault) = ⊥
Means tables (Err fault) (Ok meaning) = ⊥
Means tables (Err fault) (Err same) = fault ≡ same

-- an event that was read stands for this one
abbrev pub IsEvent : List Table → code.Event → ScriptEvent → Type 0
IsEvent tables (read.Exec statement) event = event ≡ DoExec (statement_of statement)
IsEvent tables (read.Query n query) event = (meaning : Result model.Query Fault) × Means tables query meaning × (event ≡ DoQuery n meaning)
IsEvent tables (read.Write n sql) event = event ≡ DoWrite n sql
IsEvent tables (read.Explain n query) event = (meaning : Result model.Query Fault) × Means tables query meaning × (event ≡ DoExplain n meaning)
IsEvent tables (read.Push n) event = event ≡ DoPush n
IsEvent tables (read.ToServer n) event = event ≡ DoToServer n
IsEvent tables (read.ToClient n) event = event ≡ DoToClient n
IsEvent tables (read.Settle n) event = event ≡ DoSettle n
IsEvent tables (read.Evict n place) event = event ≡ DoEvict n place
IsEvent tables (read.Cut n) event = event ≡ DoCut n
IsEvent tables (read.Resume n) event = event ≡ DoResume n

-- with the number of its line
abbrev pub IsEventLine : List Table → EventLine → ℕ × ScriptEvent → Type 0
IsEventLine tables line numbered = (event : ScriptEvent) × IsEvent tables line.event event × (numbered ≡ (line.number, event))

-- the events of a script, in the order of its lines
abbrev pub AreEvents : Script → List (ℕ × ScriptEvent) → Type 0
AreEvents s events = AllZip (IsEventLine s.schema) s.lines events

abbrev pub few_rows : Write → Bool
few_rows (writes.Insert table rows) = nat_lt (length rows) 65536
few_rows (writes.Update table sets filter) = true
few_rows (writes.Delete table filter) = true

-- a statement that suits the tables, of fewer than 65,536 rows
abbrev pub statement_fits : List Table → Result Write Fault → Bool
statement_fits tables (Ok w) = suits tables (write_of w) && few_rows w
statement_fits tables (Err fault) = true

-- the event can be carried out over these tables, with so many clients
abbrev pub event_fits : ℕ → List Table → code.Event → Bool
event_fits clients tables (read.Exec statement) = statement_fits tables statement
event_fits clients tables (read.Query n query) = is_client clients n
event_fits clients tables (read.Write n sql) = is_client clients n
event_fits clients tables (read.Explain n query) = is_client clients n
event_fits clients tables (read.Push n) = is_client clients n
event_fits clients tables (read.ToServer n) = is_client clients n
event_fits clients tables (read.ToClient n) = is_client clients n
event_fits clients tables (read.Settle n) = is_client clients n
event_fits clients tables (read.Evict n place) = is_client clients n
event_fits clients tables (read.Cut n) = is_client clients n
event_fits clients tables (read.Resume n) = is_client clients n

-- what holds of the lines, so that they can be carried out
pub record Fits (clients : ℕ) (s : Script) : Type 0 where
  pub tables : IsTrue (list_all is_table s.schema)
  pub events : IsTrue (list_all (λ line. event_fits clients s.schema line.event) s.lines)

-- the bytes say the script of so many clients: its lines have just these events, over these tables
pub record IsRead (clients : ℕ) (bytes : List ℕ) (s : Script) : Type 0 where
  pub events : List (ℕ × ScriptEvent)
  pub end : Phase
  pub are : AreEvents s events
  pub reads : Reads clients 1 start_phase (lines_of bytes) events end
  pub tables : end.tables ≡ s.schema
  pub few : length s.lines ≤ length bytes
