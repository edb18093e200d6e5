-- Which moments of a connection a server's end stands for.
use Rattle.std.specs.Prelude.{ℕ, ◌-◌, ◌^◌, ◌≡◌, ◌==◌, List, replicate, Option, Some, None, if◌then◌else◌}
use Rattle.sr_log.specs.Held.{newest as newest_of}
use Rattle.sr_message.specs.declared.message.Message.{Message}
use Rattle.sr_session.specs.Sessions.{Database, Session}
use Rattle.sr_links.specs.Honest.{Server, cut_off}
use Rattle.sr_server.specs.Servers.{IsClientNumber, IsServer, IsSessionIf, with_session}
use Rattle.sr_server.specs.declared.outbox.Outbox.{Outbox}
use Rattle.sr_talk.specs.Serving.{named}
use Rattle.sr_serve.specs.declared.server_end.ServerEnd.{ServerEnd}

abbrev pub no_sessions : List (Option Session)
no_sessions = replicate 64 None

-- Before its first message a connection is of no client, and nobody has a session; then the client that it named has one, and nobody else.
abbrev pub HasSession : ℕ → List (Option Session) → Option Session → Type 0
HasSession client sessions None = (client ≡ 0) × (sessions ≡ no_sessions)
HasSession client sessions (Some session) = IsClientNumber client × (sessions ≡ with_session no_sessions client (Some session))

pub record IsEnd (e : ServerEnd) (s : Server) : Type 0 where
  pub server : IsServer e.server s.database
  pub session : HasSession e.client e.server.sessions s.session

-- Nobody has a session. An Outbox has the one that its client is to have, which fits each database that the server stands for.
pub record Becomes (e : ServerEnd) (outbox : Outbox) (s : Server) : Type 0 where
  pub closed : IsEnd e (cut_off s)
  pub number : IsClientNumber outbox.client
  pub session : HasSession outbox.client (with_session no_sessions outbox.client outbox.session) s.session
  pub fits : (db : Database) → IsServer e.server db → IsSessionIf db outbox.session

-- under which number a message is taken
abbrev pub number_for : ℕ → Message → ℕ
number_for client m = if client == 0 then named m else client

-- how many versions it can make still
abbrev pub room_of : ServerEnd → ℕ
room_of e = 2 ^ 63 - 1 - newest_of e.server.log
