-- Sessions by the numbers of their clients.
use Rattle.std.proofs.Common.{◌≡◌, ℕ, ◌-◌, ◌<◌, List, length, ◌∙◌, ap, subst, arith, Option, Some, None}
use Rattle.std.specs.List.{All}
use Rattle.std.proofs.lemmas.List.{set-set}
use Rattle.std.proofs.lemmas.List.Elements.{All-set, All-get_or}
use Rattle.sr_session.specs.Sessions.{Database, Session}
use Rattle.sr_server.specs.declared.server.Server.{Server}
use Rattle.sr_server.specs.Servers.{IsClientNumber, IsSession, IsSessionIf, session_at, with_session}

-- the last one that is put there
pub last-session : (sessions : List (Option Session)) (client : ℕ) (one other : Option Session) → with_session (with_session sessions client one) client other ≡ with_session sessions client other
last-session sessions client one other = set-set sessions (client - 1) one other

pub place-within : (sessions : List (Option Session)) (client : ℕ) → IsClientNumber client → length sessions ≡ 64 → client - 1 < length sessions
place-within sessions client number count = omega (arith, number.0, number.1, count)

-- each session is one of the database
pub session-is : (db : Database) (sessions : List (Option Session)) (client : ℕ) → IsClientNumber client → length sessions ≡ 64 → All (IsSessionIf db) sessions → IsSessionIf db (session_at sessions client)
session-is db sessions client number count all = All-get_or (IsSessionIf db) sessions (client - 1) None (place-within sessions client number count) all

pub sessions-are : (db : Database) (sessions : List (Option Session)) (client : ℕ) (session : Option Session) → IsSessionIf db session → All (IsSessionIf db) sessions → All (IsSessionIf db) (with_session sessions client session)
sessions-are db sessions client session one all = All-set (IsSessionIf db) sessions (client - 1) session one all

-- the session was taken out, and another one put there
pub put-back : (old mid new : Server) (client : ℕ) (one other : Option Session) → mid ≡ record old { sessions = with_session old.sessions client None }
    → new ≡ record mid { sessions = with_session mid.sessions client one } → one ≡ other → new ≡ record old { sessions = with_session old.sessions client other }
put-back old mid new client one other closed is same =
    is ∙ (ap (λ (s : Server). record s { sessions = with_session s.sessions client one }) closed
    ∙ ap (λ (ss : List (Option Session)). record old { sessions = ss }) (last-session old.sessions client None one ∙ ap (λ s. with_session old.sessions client s) same))

pub same-there : (one other : Session) → Some one ≡ Some other → one ≡ other
same-there one other is = cc

pub open-is : (db : Database) (sessions : List (Option Session)) (client : ℕ) (session : Session) → IsClientNumber client → length sessions ≡ 64 → All (IsSessionIf db) sessions
    → session_at sessions client ≡ Some session → IsSession db session
open-is db sessions client session number count all at = subst (IsSessionIf db) at (session-is db sessions client number count all)
