-- What happens to one seat of a world happens to the world.
use Rattle.std.proofs.Common.{◌≡◌, ℕ, zero, suc, ◌+◌, ◌<◌, ◌≤◌, List, [], ◌∷◌, length, refl, sym, ◌∙◌, ap, subst, arith, inl, inr, Some}
use Rattle.std.specs.Prelude.{◌⊎◌, slice_get, slice_index_or, slice_set, sum_by}
use Rattle.std.proofs.lemmas.Option.{slice_get_read, slice_get_within}
use Rattle.std.proofs.lemmas.List.{length-set}
use Rattle.sr_log.specs.Held.{newest as newest_of}
use Rattle.sr_script.specs.declared.line.TraceLine.{TraceLine}
use Rattle.sr_policy.specs.declared.policy.Limits.{Limits}
use Rattle.sr_session.specs.Clients.{Pair}
use Rattle.sr_session.specs.Scenes.{Scene, pair_at}
use Rattle.sr_session.proofs.EventLemmas.{at, get-set-other}
use Rattle.sr_session.proofs.ReachLemmas.{get-set-same}
use Rattle.sr_server.specs.Servers.{IsClientNumber, session_at}
use Rattle.sr_world.specs.declared.seat.Seat.{Seat}
use Rattle.sr_world.specs.declared.world.World.{World}
use Rattle.sr_world.specs.Worlds.{Goes, IsSeat, Represents, drawn, drawn_by, potential, seat_at, weight}
use Rattle.sr_world.specs.Seats.{LeavesOthers, SeatGoes, SeatStands}
use Rattle.sr_world.specs.Lent.{IsLent}
use Rattle.sr_world.proofs.LentLemmas.{is-lent}
use Rattle.sr_world.proofs.Numbers.{few-sent, low-rank}
use Rattle.sr_world.proofs.Sums.{sum-below, sum-under, sum-within}

-- ---- places

pub there-is : {X : Type 0} (xs : List X) (i : ℕ) → i < length xs → (x : X) × (slice_get xs i ≡ Some x)
there-is {X} [] i within = absurd (omega (arith, within))
there-is {X} (x ∷ xs) zero within = (x, refl)
there-is {X} (x ∷ xs) (suc i) within = there-is xs i (omega (arith, within))

pub same-or : (a b : ℕ) → (a ≡ b) ⊎ (a ≡ b → ⊥)
same-or zero zero = inl refl
same-or zero (suc b) = inr (λ e. absurd (omega (arith, e)))
same-or (suc a) zero = inr (λ e. absurd (omega (arith, e)))
same-or (suc a) (suc b) = by (same-or a b)
  where
    by : (a ≡ b) ⊎ (a ≡ b → ⊥) → (suc a ≡ suc b) ⊎ (suc a ≡ suc b → ⊥)
    by (inl e) = inl (ap suc e)
    by (inr differ) = inr (λ e. differ (omega (arith, e)))

-- ---- the seat of a client

-- the number of a pair is that of a client
pair-number : (s : Scene) (k : ℕ) (pair : Pair) → length s.pairs ≤ 64 → pair_at s k ≡ Some pair → IsClientNumber k
pair-number s zero pair few is = absurd (cc)
pair-number s (suc k) pair few is = (omega arith, omega (arith, few, slice_get_within s.pairs k pair is))

pub seat-stands : (w : World) (s : Scene) (place : ℕ) (seat : Seat) → Represents w s → slice_get w.seats.items place ≡ Some seat → SeatStands s (suc place) seat w.server
seat-stands w s place seat r is =
    let found = there-is s.pairs place (let count = r.count in omega (arith, count, slice_get_within w.seats.items place seat is)) in
    record {
      number = pair-number s (suc place) found.0 r.few found.1;
      pair = found.0;
      there = found.1;
      seat = r.seats (suc place) seat found.0 is found.1;
      server = r.server;
      session = r.sessions (suc place) found.0 found.1;
      stands = r.stands;
    }

-- ---- one seat has changed

module _ (old new : World) (s next : Scene) (place : ℕ) (seat after : Seat) (r : Represents old s) (there : slice_get old.seats.items place ≡ Some seat)
    (made : new.seats.items ≡ slice_set old.seats.items place after) (stands : SeatStands next (suc place) after new.server) (others : LeavesOthers s next (suc place) old.server new.server) where
  few-still : length next.pairs ≤ 64
  few-still = let few = r.few in let count = others.count in omega (arith, few, count)

  same-pair : (pair : Pair) → pair_at next (suc place) ≡ Some pair → stands.pair ≡ pair
  same-pair pair is = let e : Some stands.pair ≡ Some pair = sym stands.there ∙ is in cc

  sessions-still : (k : ℕ) (pair : Pair) → pair_at next k ≡ Some pair → session_at new.server.sessions k ≡ pair.connection.session
  sessions-still k pair is = by (same-or k (suc place))
    where
      by : (k ≡ suc place) ⊎ (k ≡ suc place → ⊥) → session_at new.server.sessions k ≡ pair.connection.session
      by (inl same) =
          subst (λ j. session_at new.server.sessions j ≡ pair.connection.session) (sym same)
          (stands.session ∙ ap (λ (p : Pair). p.connection.session) (same-pair pair (subst (λ j. pair_at next j ≡ Some pair) same is)))
      by (inr differ) =
          others.sessions k (pair-number next k pair few-still is) differ ∙ r.sessions k pair (sym (others.pairs k differ) ∙ is)

  other-seat : (k : ℕ) → (k ≡ suc place → ⊥) → seat_at new k ≡ seat_at old k
  other-seat zero differ = refl
  other-seat (suc k) differ = ap (λ ss. slice_get ss k) made ∙ get-set-other old.seats.items place k after (λ same. differ (ap suc same))

  this-seat : (one : Seat) → seat_at new (suc place) ≡ Some one → after ≡ one
  this-seat one is =
      let e : Some after ≡ Some one = sym (ap (λ ss. slice_get ss place) made ∙ get-set-same old.seats.items place seat after there) ∙ is in cc

  kept-seat : (k : ℕ) (one : Seat) (pair : Pair) → IsSeat s.database s.limits k one pair → IsSeat next.database next.limits k one pair
  kept-seat k one pair own = record {
    number = own.number;
    limits = own.limits ∙ sym others.limits;
    regions = subst (λ (l : Limits). l.regions ≤ 1024) (sym others.limits) own.regions;
    client = others.clients pair.client one.client own.client;
    to_server = own.to_server;
    to_client = own.to_client;
    requests = rw others.schema own.requests;
  }

  seats-still : (k : ℕ) (one : Seat) (pair : Pair) → seat_at new k ≡ Some one → pair_at next k ≡ Some pair → IsSeat next.database next.limits k one pair
  seats-still k one pair is pair_is = by (same-or k (suc place))
    where
      by : (k ≡ suc place) ⊎ (k ≡ suc place → ⊥) → IsSeat next.database next.limits k one pair
      by (inl same) =
          subst (λ j. IsSeat next.database next.limits j one pair) (sym same)
          (subst (λ p. IsSeat next.database next.limits (suc place) one p) (same-pair pair (subst (λ j. pair_at next j ≡ Some pair) same pair_is))
          (subst (λ x. IsSeat next.database next.limits (suc place) x stands.pair) (this-seat one (subst (λ j. seat_at new j ≡ Some one) same is)) stands.seat))
      by (inr differ) = kept-seat k one pair (r.seats k one pair (sym (other-seat k differ) ∙ is) (sym (others.pairs k differ) ∙ pair_is))

  pub represents-after : new.spent ≡ old.spent → Represents new next
  represents-after spent = record {
    ready = spent ∙ r.ready;
    server = stands.server;
    sessions = sessions-still;
    count = ap length made ∙ (length-set old.seats.items place after ∙ (r.count ∙ sym others.count));
    few = few-still;
    seats = seats-still;
    stands = stands.stands;
  }

-- what a seat does, the world does
pub one-seat : (Leads : ℕ → Scene → List TraceLine → Scene → Type 0) (old new : World) (n place : ℕ) (seat after : Seat) (lines : List TraceLine) → n ≡ suc place
    → slice_get old.seats.items place ≡ Some seat → new.seats.items ≡ slice_set old.seats.items place after → new.spent ≡ old.spent
    → SeatGoes Leads seat old.server after new.server lines → Goes (Leads n) old new lines
one-seat Leads old new n place seat after lines number there made spent goes = λ s r.
    let l = goes s (suc place) (seat-stands old s place seat r there) in
    (l.next, subst (λ k. Leads k s lines l.next) (sym number) l.leads, represents-after old new s l.next place seat after r there made l.stands l.others spent)

-- ---- numbers

pub seat-within : (f : Seat → ℕ) (w : World) (place : ℕ) (seat : Seat) → slice_get w.seats.items place ≡ Some seat → newest_of w.server.log + f seat ≤ newest_of w.server.log + sum_by f w.seats.items
seat-within f w place seat there = omega (arith, sum-within f w.seats.items place seat there)

pub drawn-within : (w : World) → drawn w ≤ potential w
drawn-within w = omega (arith, sum-under drawn_by weight w.seats.items (λ seat. omega arith))

pub potential-within : (w : World) (s : Scene) → Represents w s → potential w ≤ drawn w + 192
potential-within w s r =
    let few = r.few in
    let count = r.count in
    omega (arith, few, count, sum-below weight drawn_by w.seats.items each)
  where
    each : (i : ℕ) (seat : Seat) → slice_get w.seats.items i ≡ Some seat → weight seat ≤ drawn_by seat + 3
    each i seat there =
        let h = seat-stands w s i seat r there in
        let sent : length seat.to_server ≤ 1 = subst (λ ms. length ms ≤ 1) (sym h.seat.to_server) (few-sent s.database h.pair (at s (suc i) h.pair h.stands h.there)) in
        omega (arith, sent, low-rank seat.client.out)

-- ---- the client that is lent

pub lent-at : (w : World) (s : Scene) (n place : ℕ) (seat : Seat) → Represents w s → n ≡ suc place → place < length w.seats.items → seat ≡ slice_index_or w.seats.items place seat → IsLent s n seat.client
lent-at w s n place seat r number within is =
    subst (λ k. IsLent s k seat.client) (sym number) (is-lent s (suc place) seat w.server (seat-stands w s place seat r (slice_get_read w.seats.items (length w.seats.items) place seat refl within is)))
