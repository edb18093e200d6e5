-- Scenes of runs, and clients that stand.
use Rattle.std.proofs.Common.{◌≡◌, ℕ, zero, suc, ◌+◌, List, [], ◌∷◌, ◌++◌, length, refl, sym, ◌∙◌, ap, subst, arith, Option, Some, None}
use Rattle.std.specs.Prelude.{slice_get, slice_set}
use Rattle.sr_session.specs.Sessions.{Database}
use Rattle.sr_session.specs.Walks.{AreLaid, Request, ResumeOut}
use Rattle.sr_session.specs.Clients.{Client, Flows, Pair, Stands, is_down, is_idle, is_open, is_resuming, is_sent, is_served}
use Rattle.sr_session.specs.Tidy.{IsTidy, IsTidyWith}
use Rattle.sr_session.specs.Scenes.{Scene, SceneStands, pair_at, with_pair}
use Rattle.sr_session.specs.Headline.{IsReached, query_at}
use Rattle.sr_session.proofs.EventLemmas.{runs-stand}

pub reached-stands : (s : Scene) → IsReached s → SceneStands s
reached-stands s r = runs-stand r.limits r.schema r.log_limit r.tables r.clients r.events r.reports s r.runs

-- ---- one client of many

pub get-set-same : {X : Type 0} (xs : List X) (i : ℕ) (old x : X) → slice_get xs i ≡ Some old → slice_get (slice_set xs i x) i ≡ Some x
get-set-same {X} [] i old x is = absurd (cc)
get-set-same {X} (y ∷ xs) zero old x is = refl
get-set-same {X} (y ∷ xs) (suc i) old x is = get-set-same xs i old x is

pub at-set : (s : Scene) (n : ℕ) (old new : Pair) → pair_at s n ≡ Some old → pair_at (with_pair s n new) n ≡ Some new
at-set s zero old new is = absurd (cc)
at-set s (suc n) old new is = get-set-same s.pairs n old new is

pub same-database : (s : Scene) (n : ℕ) (new : Pair) → (with_pair s n new).database ≡ s.database
same-database s zero new = refl
same-database s (suc n) new = refl

-- ---- numbered queries

pub query-at-plus : (c : Client) (k : ℕ) → query_at c (k + 1) ≡ slice_get c.queries k
query-at-plus c k = let e : k + 1 ≡ suc k = omega arith in ap (query_at c) e

pub get-last : {X : Type 0} (xs : List X) (x : X) → slice_get (xs ++ x ∷ []) (length xs) ≡ Some x
get-last {X} [] x = refl
get-last {X} (y ∷ xs) x = get-last xs x

pub get-first : {X : Type 0} (xs ys : List X) (i : ℕ) (x : X) → slice_get xs i ≡ Some x → slice_get (xs ++ ys) i ≡ Some x
get-first {X} [] ys i x is = absurd (cc)
get-first {X} (y ∷ xs) ys zero x is = is
get-first {X} (y ∷ xs) ys (suc i) x is = get-first xs ys i x is

-- ---- what stands

pub stands-tidy : (db : Database) (pair : Pair) → Stands db pair → IsTidy db.schema pair.client
stands-tidy db pair (is_open session h) = by pair.client.out h.flows
  where
    by : (out : Option Request) → Flows db pair.client pair.connection session out → IsTidyWith db.schema pair.client out
    by out (is_idle empty none walks) = none
    by out (is_sent request o all f) = (o, all)
    by out (is_served request o all f) = (o, all)
stands-tidy db pair (is_down h) = subst (IsTidyWith db.schema pair.client) (sym h.out) h.laid
stands-tidy db pair (is_resuming h) = subst (IsTidyWith db.schema pair.client) (sym h.out) (h.next, subst AreLaid (sym h.laid) tt)

-- while nothing is out, nothing is on its way to the server
pub idle-queue : (db : Database) (pair : Pair) → Stands db pair → pair.client.out ≡ None → pair.connection.to_server ≡ []
idle-queue db pair (is_open session h) out = by (subst (Flows db pair.client pair.connection session) out h.flows)
  where
    by : Flows db pair.client pair.connection session None → pair.connection.to_server ≡ []
    by (is_idle empty none walks) = empty
idle-queue db pair (is_down h) out = h.to_server
idle-queue db pair (is_resuming h) out = absurd (let wrong : None ≡ Some (ResumeOut h.number) = sym out ∙ h.out in cc)
