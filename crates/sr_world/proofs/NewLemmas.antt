-- A world before anything happens.
use Rattle.std.proofs.Common.{◌≡◌, ℕ, zero, suc, ◌+◌, ◌-◌, ◌<◌, ◌≤◌, true, false, List, [], ◌∷◌, ◌++◌, length, refl, sym, ◌∙◌, ap, subst, arith, inl, inr, Option, Some, None}
use Rattle.std.specs.Prelude.{◌⊎◌, replicate, slice_get, slice_index_or, slice_set, sum_by}
use Rattle.std.proofs.lemmas.List.{get_or-set_same, get_or-set_other, length-append, length-replicate}
use Rattle.sr_cell.specs.declared.table.Table.{Table}
use Rattle.sr_cell.proofs.Numbers.{eqb_same}
use Rattle.sr_log.specs.Held.{newest as newest_of}
use Rattle.sr_message.specs.declared.message.Message.TheVariants.{Hello}
use Rattle.sr_model.specs.Statements.{Tables}
use Rattle.sr_policy.specs.declared.policy.Limits.{Limits}
use Rattle.std.specs.List.{list_all}
use Rattle.sr_query.specs.Bound.{is_table}
use Rattle.sr_tables.specs.Stored.{Stored}
use Rattle.sr_session.specs.Refusals.{server_misfit}
use Rattle.sr_session.specs.Sessions.{Database, Session, opened}
use Rattle.sr_session.specs.Clients.{Pair}
use Rattle.sr_session.specs.Laws.{IsSound}
use Rattle.sr_session.specs.Scenes.{first_scene, new_pair, pair_at}
use Rattle.sr_session.proofs.EventLemmas.{first-stands}
use Rattle.sr_server.specs.declared.server.Server.{Server}
use Rattle.sr_server.specs.Servers.{IsClientNumber, IsServer, first_database, session_at, with_session}
use Rattle.sr_server.proofs.Entries.{newest-is}
use Rattle.sr_world.specs.declared.seat.Seat.{Seat}
use Rattle.sr_world.specs.declared.world.World.{World}
use Rattle.sr_world.specs.Worlds.{IsSeat, Represents, drawn_by, seat_at}
use Rattle.sr_world.proofs.Sound.{sound-of}
use Rattle.sr_world.proofs.Sums.{sum-ones}
use Rattle.sr_world.proofs.WorldLemmas.{same-or}

-- ---- the first message

hello-by : (schema : List Table) (session : Option Session) (n : ℕ) → session ≡ None → server_misfit schema session n (Hello 2 n 0) ≡ None
hello-by schema None n is = rw (eqb_same n) refl
hello-by schema (Some s) n is = absurd (cc)

pub hello-fits : (schema : List Table) (sessions : List (Option Session)) (n : ℕ) → session_at sessions n ≡ None → server_misfit schema (session_at sessions n) n (Hello 2 n 0) ≡ None
hello-fits schema sessions n is = hello-by schema (session_at sessions n) n is

-- ---- the clients so far

-- the first clients of the server, and a seat for each
pub record IsBegun (limits : Limits) (schema : List Table) (log_limit : ℕ) (tables : Tables) (count : ℕ) (server : Server) (seats : List Seat) : Type 0 where
  pub database : IsServer server (first_database schema log_limit tables)
  pub all : length seats ≡ count
  pub some : (k : ℕ) → k < count → slice_index_or server.sessions k None ≡ opened (first_database schema log_limit tables) 2 []
  pub none : (k : ℕ) → count ≤ k → slice_index_or server.sessions k None ≡ None
  pub own : (k : ℕ) (seat : Seat) → slice_get seats k ≡ Some seat → IsSeat (first_database schema log_limit tables) limits (k + 1) seat new_pair
  pub ones : (k : ℕ) (seat : Seat) → slice_get seats k ≡ Some seat → drawn_by seat ≡ 1

none-at : (count k : ℕ) → slice_index_or (replicate {A = Option Session} count None) k None ≡ None
none-at zero k = refl
none-at (suc count) zero = refl
none-at (suc count) (suc k) = none-at count k

pub begun-none : (limits : Limits) (schema : List Table) (log_limit : ℕ) (tables : Tables) (server : Server) → IsServer server (first_database schema log_limit tables)
    → server.sessions ≡ replicate 64 None → IsBegun limits schema log_limit tables 0 server []
begun-none limits schema log_limit tables server is sessions = record {
  database = is;
  all = refl;
  some = λ k within. absurd (omega (arith, within));
  none = λ k within. ap (λ ss. slice_index_or ss k None) sessions ∙ none-at 64 k;
  own = λ k seat there. absurd (cc);
  ones = λ k seat there. absurd (cc);
}

under : (k count : ℕ) → k < count + 1 → (k ≡ count → ⊥) → k < count
under zero zero below other = absurd (other refl)
under zero (suc count) below other = omega arith
under (suc k) zero below other = absurd (omega (arith, below))
under (suc k) (suc count) below other = let rest = under k count (omega (arith, below)) (λ same. other (ap suc same)) in omega (arith, rest)

-- an element of a list with one more at its end
last-or : {X : Type 0} (xs : List X) (y x : X) (k : ℕ) → slice_get (xs ++ y ∷ []) k ≡ Some x → (slice_get xs k ≡ Some x) ⊎ ((k ≡ length xs) × (y ≡ x))
last-or {X} [] y x zero there = inr (refl, (let same : y ≡ x = cc in same))
last-or {X} [] y x (suc k) there = absurd (cc)
last-or {X} (z ∷ xs) y x zero there = inl there
last-or {X} (z ∷ xs) y x (suc k) there = by (last-or xs y x k there)
  where
    by : (slice_get xs k ≡ Some x) ⊎ ((k ≡ length xs) × (y ≡ x)) → (slice_get xs k ≡ Some x) ⊎ ((suc k ≡ suc (length xs)) × (y ≡ x))
    by (inl same) = inl same
    by (inr last) = inr (ap suc last.0, last.1)

pub begun-more : (limits : Limits) (schema : List Table) (log_limit : ℕ) (tables : Tables) (count client : ℕ) (server after : Server) (seats : List Seat) (seat : Seat)
    → IsBegun limits schema log_limit tables count server seats → client ≡ count + 1 → IsClientNumber client → IsServer after (first_database schema log_limit tables)
    → after.sessions ≡ with_session server.sessions client (opened (first_database schema log_limit tables) 2 [])
    → ((db : Database) → IsSound db → db.schema ≡ schema → IsSeat db limits client seat new_pair) → drawn_by seat ≡ 1
    → IsBegun limits schema log_limit tables (count + 1) after (seats ++ seat ∷ [])
begun-more limits schema log_limit tables count client server after seats seat b number within is sessions own one = record {
  database = is;
  all = length-append seats (seat ∷ []) ∙ ap (λ n. n + 1) b.all;
  some = open_at;
  none = λ k behind. ap (λ ss. slice_index_or ss k None) sessions
      ∙ (get_or-set_other server.sessions (client - 1) k (opened db 2 []) None (λ same. absurd (omega (arith, same, number, behind))) ∙ b.none k (omega (arith, behind)));
  own = each;
  ones = λ k x there. one_of k x (last-or seats seat x k there);
}
  where
    db : Database
    db = first_database schema log_limit tables

    place : client - 1 ≡ count
    place = omega (arith, number)

    room : client - 1 < length server.sessions
    room = let count = b.database.count in omega (arith, within.0, within.1, count)

    set_at : (k : ℕ) → k < count + 1 → (k ≡ client - 1) ⊎ (k ≡ client - 1 → ⊥) → slice_index_or (slice_set server.sessions (client - 1) (opened db 2 [])) k None ≡ opened db 2 []
    set_at k below (inl same) = subst (λ j. slice_index_or (slice_set server.sessions (client - 1) (opened db 2 [])) j None ≡ opened db 2 []) (sym same) (get_or-set_same server.sessions (client - 1) (opened db 2 []) None room)
    set_at k below (inr differ) = get_or-set_other server.sessions (client - 1) k (opened db 2 []) None differ ∙ b.some k (under k count below (λ same. differ (omega (arith, same, place))))

    open_at : (k : ℕ) → k < count + 1 → slice_index_or after.sessions k None ≡ opened db 2 []
    open_at k below = ap (λ ss. slice_index_or ss k None) sessions ∙ set_at k below (same-or k (client - 1))

    own_at : (k : ℕ) (x : Seat) → (slice_get seats k ≡ Some x) ⊎ ((k ≡ length seats) × (seat ≡ x)) → IsSeat db limits (k + 1) x new_pair
    own_at k x (inl same) = b.own k x same
    own_at k x (inr last) =
        let at : client ≡ k + 1 = (let all = b.all in let there = last.0 in omega (arith, number, all, there)) in
        subst (λ (s : Seat). IsSeat db limits (k + 1) s new_pair) last.1 (subst (λ n. IsSeat db limits n seat new_pair) at (own db (sound-of db is.sound) refl))

    each : (k : ℕ) (x : Seat) → slice_get (seats ++ seat ∷ []) k ≡ Some x → IsSeat db limits (k + 1) x new_pair
    each k x there = own_at k x (last-or seats seat x k there)

    one_of : (k : ℕ) (x : Seat) → (slice_get seats k ≡ Some x) ⊎ ((k ≡ length seats) × (seat ≡ x)) → drawn_by x ≡ 1
    one_of k x (inl same) = b.ones k x same
    one_of k x (inr last) = subst (λ (s : Seat). drawn_by s ≡ 1) last.1 one

-- ---- the world

replicate-at : (count k : ℕ) (pair : Pair) → slice_get (replicate count new_pair) k ≡ Some pair → (k < count) × (pair ≡ new_pair)
replicate-at zero k pair is = absurd (cc)
replicate-at (suc count) zero pair is = (omega arith, (let same : new_pair ≡ pair = cc in sym same))
replicate-at (suc count) (suc k) pair is = let rest = replicate-at count k pair is in (omega (arith, rest.0), rest.1)

pub begun-world : (limits : Limits) (schema : List Table) (log_limit : ℕ) (tables : Tables) (count : ℕ) (w : World) → IsBegun limits schema log_limit tables count w.server w.seats.items → count ≤ 64 → w.spent ≡ false
    → Represents w (first_scene limits schema log_limit tables count)
begun-world limits schema log_limit tables count w b few ready = record {
  ready = ready;
  server = b.database;
  sessions = opened_of;
  count = b.all ∙ sym (length-replicate count new_pair);
  few = (let same = length-replicate count new_pair in omega (arith, few, same));
  seats = own_of;
  stands = first-stands limits schema log_limit tables count;
}
  where
    db : Database
    db = first_database schema log_limit tables

    opened_of : (n : ℕ) (pair : Pair) → pair_at (first_scene limits schema log_limit tables count) n ≡ Some pair → session_at w.server.sessions n ≡ pair.connection.session
    opened_of zero pair is = absurd (cc)
    opened_of (suc k) pair is =
        let at = replicate-at count k pair is in
        let place : k ≡ suc k - 1 = omega arith in
        subst (λ j. slice_index_or w.server.sessions j None ≡ pair.connection.session) place
        (b.some k at.0 ∙ ap (λ (p : Pair). p.connection.session) (sym at.1))

    own_of : (n : ℕ) (seat : Seat) (pair : Pair) → seat_at w n ≡ Some seat → pair_at (first_scene limits schema log_limit tables count) n ≡ Some pair → IsSeat db limits n seat pair
    own_of zero seat pair is pair_is = absurd (cc)
    own_of (suc k) seat pair is pair_is =
        let at = replicate-at count k pair pair_is in
        let number : k + 1 ≡ suc k = omega arith in
        subst (λ n. IsSeat db limits n seat pair) number (subst (λ (p : Pair). IsSeat db limits (k + 1) seat p) (sym at.1) (b.own k seat is))

pub begun-version : (schema : List Table) (log_limit : ℕ) (tables : Tables) (server : Server) → IsServer server (first_database schema log_limit tables) → newest_of server.log ≡ 0
begun-version schema log_limit tables server is = newest-is (first_database schema log_limit tables) server.log is.knows.log ∙ (let none : 1 - 1 ≡ 0 = omega arith in none)

pub begun-drawn : (limits : Limits) (schema : List Table) (log_limit : ℕ) (tables : Tables) (count : ℕ) (server : Server) (seats : List Seat) → IsBegun limits schema log_limit tables count server seats
    → newest_of server.log + sum_by drawn_by seats ≡ count
begun-drawn limits schema log_limit tables count server seats b =
    let version = begun-version schema log_limit tables server b.database in
    let all = b.all in
    omega (arith, version, all, sum-ones drawn_by seats b.ones)

-- ---- the next client

-- its first message can pass
pub begun-closed : (limits : Limits) (schema : List Table) (log_limit : ℕ) (tables : Tables) (count : ℕ) (server : Server) (seats : List Seat) → IsBegun limits schema log_limit tables count server seats
    → session_at server.sessions (count + 1) ≡ None
begun-closed limits schema log_limit tables count server seats b =
    let place : count ≡ count + 1 - 1 = omega arith in
    subst (λ k. slice_index_or server.sessions k None ≡ None) place (b.none count (omega arith))

-- ---- the server before the first message

pub is-first : (server : Server) (tables : Stored) (log_limit : ℕ) → server.tables ≡ tables → IsServer server (first_database tables.schema log_limit tables.rows) → IsServer server (first_database tables.schema log_limit tables.rows)
is-first server tables log_limit same is = is

pub begun-tables : (schema : List Table) (log_limit : ℕ) (tables : Tables) (server : Server) → IsServer server (first_database schema log_limit tables) → list_all is_table server.tables.schema ≡ true
begun-tables schema log_limit tables server is = subst (λ s. list_all is_table s ≡ true) (sym is.knows.schema) is.sound.tables
