-- Sessions by the numbers of their clients.
use Rattle.std.proofs.Common.{◌≡◌, ℕ, ◌-◌, List, length, sym, ◌∙◌, ap, arith, Option, None}
use Rattle.std.proofs.lemmas.List.{get_or-set_same, get_or-set_other, set-get_or}
use Rattle.sr_session.specs.Sessions.{Session}
use Rattle.sr_server.specs.Servers.{IsClientNumber, session_at, with_session}

pub session-there : (sessions : List (Option Session)) (n : ℕ) (session : Option Session) → IsClientNumber n → length sessions ≡ 64 → session_at (with_session sessions n session) n ≡ session
session-there sessions n session number count = get_or-set_same sessions (n - 1) session None (omega (arith, number.0, number.1, count))

pub session-other : (sessions : List (Option Session)) (n k : ℕ) (session : Option Session) → IsClientNumber n → IsClientNumber k → (k ≡ n → ⊥) → session_at (with_session sessions n session) k ≡ session_at sessions k
session-other sessions n k session number other differ =
    get_or-set_other sessions (n - 1) (k - 1) session None (λ same. differ (omega (arith, same, number.0, other.0)))

pub same-session : (sessions : List (Option Session)) (n : ℕ) (session : Option Session) → session_at sessions n ≡ session → with_session sessions n session ≡ sessions
same-session sessions n session is = ap (λ s. with_session sessions n s) (sym is) ∙ set-get_or sessions (n - 1) None
