-- Which databases a server stands for, and what it makes of a message.
use Rattle.std.specs.Prelude.{ℕ, ◌-◌, Bool, true, false, nat_le, ◌<◌, ◌≤◌, List, [], ◌∷◌, ◌++◌, ◌≡◌, ◌⊎◌, length, slice_index_or, slice_set, Option, Some, None, Result, Ok, IsTrue, if◌then◌else◌}
use Rattle.std.specs.List.{All, AllByRecursion, list_all}
use Rattle.sr_cell.specs.declared.change.Change.{Change}
use Rattle.sr_cell.specs.declared.fault.Fault.{Fault}
use Rattle.sr_cell.specs.declared.table.Table.{Table}
use Rattle.sr_cell.specs.Columns.{are_values}
use Rattle.sr_cell.specs.Clients.{most_clients}
use Rattle.sr_grammar.specs.Trees.{Statement}
use Rattle.sr_grammar.specs.Says.{Says}
use Rattle.sr_log.specs.Held.{Held, IsPushed, KeepsNewest, newest as newest_of}
use Rattle.sr_log.specs.declared.entry.Entry.{Entry}
use Rattle.sr_message.specs.declared.message.Holding.{Holding}
use Rattle.sr_message.specs.declared.message.Message.{Message}
use Rattle.sr_message.specs.declared.message.Message.TheVariants.{Hello, Resume, Ask, Write, Welcome}
use Rattle.sr_model.specs.Changes.{changes}
use Rattle.sr_model.specs.Statements.{Tables}
use Rattle.sr_query.specs.Binding.{◌>>=◌}
use Rattle.sr_query.specs.Bound.{is_table}
use Rattle.sr_session.specs.Scenes.{taken}
use Rattle.sr_session.specs.Sessions.{Database, Served, Session, all_changes, due, newest, opened, serve, tables_of, with_version}
use Rattle.sr_subs.specs.Subscription.{FitsSome}
use Rattle.sr_tables.specs.Stored.{Stored, are_stored, done_by}
use Rattle.sr_server.specs.declared.server.Server.{Server}
use Rattle.sr_outbox.specs.Noticed.{noticed}

-- ---- sessions

abbrev pub IsClientNumber : ℕ → Type 0
IsClientNumber client = (1 ≤ client) × (client ≤ most_clients)

-- the session of that client, if it has one
abbrev pub session_at : List (Option Session) → ℕ → Option Session
session_at sessions client = slice_index_or sessions (client - 1) None

abbrev pub with_session : List (Option Session) → ℕ → Option Session → List (Option Session)
with_session sessions client session = slice_set sessions (client - 1) session

-- It has reached no later version than the newest, and each of its rects fits the columns of some table.
pub record IsSession (db : Database) (session : Session) : Type 0 where
  pub upto : session.upto ≤ newest db
  pub points : AllByRecursion FitsSome session.subscription

abbrev pub IsSessionIf : Database → Option Session → Type 0
IsSessionIf db None = Unit {0}
IsSessionIf db (Some session) = IsSession db session

-- the server with this session of that client
abbrev pub put : Server → ℕ → Option Session → Server
put server client session = record server { sessions = with_session server.sessions client session }

-- a session once it was told what is due
abbrev pub caught_up : Database → Session → Session
caught_up db session = record session { subscription = (due db session).subscription; upto = newest db }

-- a session as the rows of an ask find it: a fresh ask forgets what was subscribed, another is told first what is due
abbrev pub before_rows : Database → Bool → Session → Session
before_rows db fresh session = record session { subscription = (if fresh then [] else (due db session).subscription); upto = newest db }

-- a session begins, and its client is told that it keeps nothing
abbrev pub begun : Database → ℕ → ℕ → Served
begun db wire number = record { session = opened db wire []; sent = Welcome number (newest db) false ∷ [] }

-- a session goes on with what its client holds, which is told of these entries
abbrev pub gone_on : Held → ℕ → ℕ → List Holding → List Entry → Served
gone_on log wire number holdings entries = record {
  session = Some (record { wire = wire; subscription = holdings; upto = newest_of log });
  sent = noticed holdings entries ++ Welcome number (newest_of log) true ∷ [];
}

-- what a request of that client makes of its session, and what is sent
abbrev pub served_of : Database → Server → ℕ → Message → Served
served_of db server client m = serve db (session_at server.sessions client) m

-- ---- databases

-- The log keeps the newest versions of the database.
abbrev pub Logs : Database → Held → Type 0
Logs db log = KeepsNewest db.log_limit (all_changes db.schema db.versions) log

-- no more changes than a notice may tell
abbrev pub are_few : List Change → Bool
are_few changes = nat_le (length changes) 10000

-- There is a version, the rows of each are such as tables of the schema may have, and none has too many changes.
pub record IsSound (db : Database) : Type 0 where
  pub tables : IsTrue (list_all is_table db.schema)
  pub some : 0 < length db.versions
  pub stored : IsTrue (list_all (are_stored db.schema) db.versions)
  pub values : IsTrue (list_all (list_all (list_all are_values)) db.versions)
  pub few : IsTrue (list_all are_few (all_changes db.schema db.versions))

-- the tables of the newest version, and the log of the newest versions
pub record Knows (stored : Stored) (held : Held) (db : Database) : Type 0 where
  pub schema : stored.schema ≡ db.schema
  pub rows : stored.rows ≡ tables_of db (newest db)
  pub log : Logs db held

-- The server is at the newest version of the database, and has a place for a session of each client.
pub record IsServer (server : Server) (db : Database) : Type 0 where
  pub sound : IsSound db
  pub knows : Knows server.tables server.log db
  pub count : length server.sessions ≡ most_clients
  pub sessions : All (IsSessionIf db) server.sessions

-- ---- what is said for each database that may be meant

-- each whose newest versions are in the log, and whose newest version the session has not passed
abbrev pub ForEach : Held → Session → (Database → Type 0) → Type 0
ForEach log session Says = (db : Database) → Logs db log → session.upto ≤ newest db → Says db

-- each whose newest versions are in the tables and the log, and whose newest version the session has not passed
abbrev pub ForEachOf : Stored → Held → Session → (Database → Type 0) → Type 0
ForEachOf tables log session Says = (db : Database) → Knows tables log db → session.upto ≤ newest db → Says db

-- each that the server stands for, with the session of that client, if it has one
abbrev pub ForSession : Server → ℕ → (Database → Session → Type 0) → Type 0
ForSession server client Says = (db : Database) (session : Session) → IsServer server db → session_at server.sessions client ≡ Some session → Says db session

abbrev pub StandsForSome : Server → Type 0
StandsForSome server = (db : Database) × IsServer server db

-- before any statement
abbrev pub first_database : List Table → ℕ → Tables → Database
first_database schema log_limit tables = record { schema = schema; log_limit = log_limit; versions = tables ∷ [] }

-- ---- statements

-- A statement was carried out: the log has what it changed, and the sessions are as before.
pub record IsCarriedOut (old new : Server) : Type 0 where
  pub schema : new.tables.schema ≡ old.tables.schema
  pub made : List Change
  pub are : made ≡ changes old.tables.schema old.tables.rows new.tables.rows
  pub few : length made ≤ 10000
  pub pushed : IsPushed old.log made new.log
  pub stored : are_stored new.tables.schema new.tables.rows ≡ true
  pub values : list_all (list_all are_values) new.tables.rows ≡ true
  pub sessions : new.sessions ≡ old.sessions

-- ---- messages

-- Where nothing stands against a message, it begins a session that is not open, or asks one that is; a write goes its own way.
abbrev pub is_served : Bool → Message → Bool
is_served false (Hello wire client number) = true
is_served false (Resume wire client number version holdings) = true
is_served true (Ask number fresh parts) = true
is_served opened m = false

-- What a text makes of the tables, by what it says; or why the text or its statement is refused.
abbrev pub Executes : List Table → List ℕ → Tables → Result Tables Fault → Type 0
Executes schema sql tables result = (said : Result Statement Fault) × Says sql said × (result ≡ (said >>= λ s. done_by schema s tables))

-- The text of a write gives that result on the newest tables; of other messages nothing is asked.
abbrev pub Gives : Database → Message → Result Tables Fault → Type 0
Gives db (Write number sql) result = Executes db.schema sql (tables_of db (newest db)) result
Gives db m result = Unit {0}

-- The message of that client is taken by the rules: what is sent, the database, and the client's session. No other session changes.
pub record Takes (db : Database) (old : Server) (client : ℕ) (m : Message) (sent : List Message) (new : Server) : Type 0 where
  pub result : Result Tables Fault
  pub gives : Gives db m result
  pub sends : sent ≡ (taken db (session_at old.sessions client) m result).served.sent
  pub stands : IsServer new (taken db (session_at old.sessions client) m result).database
  pub sessions : new.sessions ≡ with_session old.sessions client (taken db (session_at old.sessions client) m result).served.session

-- A write was carried out, which made this server's version.
abbrev pub IsWritten : Database → Message → Server → Type 0
IsWritten db (Write number sql) new = (tables : Tables) × Executes db.schema sql (tables_of db (newest db)) (Ok tables) × IsServer new (with_version db tables)
IsWritten db m new = ⊥

-- Memory was refused: the session of that client is closed. A write was carried out, or nothing else changed.
pub record GivesUp (db : Database) (old : Server) (client : ℕ) (m : Message) (new : Server) : Type 0 where
  pub stands : IsServer new db ⊎ IsWritten db m new
  pub sessions : new.sessions ≡ with_session old.sessions client None
