-- What is left of an Outbox, and how a message is begun to be taken.
use Rattle.std.specs.Prelude.{ℕ, List, ◌≡◌, Result, None}
use Rattle.sr_cell.specs.declared.fault.Fault.{Fault}
use Rattle.sr_message.specs.declared.message.Message.{Message}
use Rattle.sr_model.specs.Statements.{Tables}
use Rattle.sr_log.specs.Held.{Held}
use Rattle.sr_session.specs.Scenes.{taken}
use Rattle.sr_session.specs.Sessions.{Database, Served}
use Rattle.sr_tables.specs.Stored.{Stored}
use Rattle.sr_outbox.specs.Left.{messages}
use Rattle.sr_server.specs.declared.outbox.Outbox.{Outbox}
use Rattle.sr_server.specs.declared.serve.Answer.{Answer}
use Rattle.sr_server.specs.declared.server.Server.{Server}
use Rattle.sr_server.specs.Servers.{Gives, IsServer, IsSessionIf, session_at, with_session}

-- a session as a request leaves it, and what is sent
abbrev pub made : Stored → Held → Answer → Served
made tables log answer = record { session = answer.session; sent = messages tables log answer.sent }

-- the messages that are left of an Outbox on a server
abbrev pub left_on : Outbox → Server → List Message
left_on outbox server = messages server.tables server.log outbox.left

-- the session of an Outbox, and what is left of it on a server
abbrev pub served_by : Outbox → Server → Served
served_by outbox server = record { session = outbox.session; sent = left_on outbox server }

-- The message of that client is carried out by the rules, and its session taken out: what they send is left, and the session is the one
-- that they leave, which fits each database that the server stands for.
pub record Begins (db : Database) (old : Server) (client : ℕ) (m : Message) (outbox : Outbox) (new : Server) : Type 0 where
  pub result : Result Tables Fault
  pub gives : Gives db m result
  pub is_for : outbox.client ≡ client
  pub sends : left_on outbox new ≡ (taken db (session_at old.sessions client) m result).served.sent
  pub session : outbox.session ≡ (taken db (session_at old.sessions client) m result).served.session
  pub fits : (later : Database) → IsServer new later → IsSessionIf later outbox.session
  pub stands : IsServer new (taken db (session_at old.sessions client) m result).database
  pub sessions : new.sessions ≡ with_session old.sessions client None
