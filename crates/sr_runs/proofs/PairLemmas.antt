-- A client stays a client, whatever happens.
use Rattle.std.proofs.Common.{◌≡◌, ℕ, zero, suc, List, [], ◌∷◌, refl, ◌∙◌, Some}
use Rattle.std.specs.Prelude.{slice_get, slice_set}
use Rattle.sr_session.specs.Sessions.{serve_push, with_version}
use Rattle.sr_session.specs.Clients.{Pair}
use Rattle.sr_session.specs.Scenes.{Event, Happens, Report, Scene, Taken, acted, client_idle, client_took, cut, cut_off, evicted, executed, given, not_executed, pair_at, push_closed, pushed, queried, resumed, server_idle, server_took, taken, with_pair, wrote}
use Rattle.sr_session.proofs.EventLemmas.{same-pairs}

set-there : {X : Type 0} (xs : List X) (i j : ℕ) (old y : X) → slice_get xs i ≡ Some old → (new : X) × (slice_get (slice_set xs j y) i ≡ Some new)
set-there {X} [] i j old y is = absurd (cc)
set-there {X} (x ∷ xs) zero zero old y is = (y, refl)
set-there {X} (x ∷ xs) zero (suc j) old y is = (old, is)
set-there {X} (x ∷ xs) (suc i) zero old y is = (old, is)
set-there {X} (x ∷ xs) (suc i) (suc j) old y is = set-there xs i j old y is

there-with : (s : Scene) (m : ℕ) (new : Pair) (n : ℕ) (old : Pair) → pair_at s n ≡ Some old → (after : Pair) × (pair_at (with_pair s m new) n ≡ Some after)
there-with s m new zero old is = absurd (cc)
there-with s zero new (suc n) old is = (old, is)
there-with s (suc m) new (suc n) old is = set-there s.pairs n m old new is

pub still-there : (s new : Scene) (event : Event) (report : Report) → Happens s event report new → (n : ℕ) (old : Pair) → pair_at s n ≡ Some old
    → (after : Pair) × (pair_at new n ≡ Some after)
still-there s new event report (executed tables) n old is = (old, same-pairs s (record s { database = with_version s.database tables }) n refl ∙ is)
still-there s new event report (not_executed fault) n old is = (old, is)
still-there s new event report (queried m text own o c there step) n old is = there-with s m (acted c own.connection o) n old is
still-there s new event report (wrote m sql own o c there step) n old is = there-with s m (acted c own.connection o) n old is
still-there s new event report (evicted m place own o c there step) n old is = there-with s m (acted c own.connection o) n old is
still-there s new event report (cut m own o c there step) n old is = there-with s m (cut_off c) n old is
still-there s new event report (resumed m own o c there step) n old is = there-with s m (acted c own.connection o) n old is
still-there s new event report (pushed m own session there opened) n old is = there-with s m (given own own.connection.to_server (serve_push s.database session)) n old is
still-there s new event report (push_closed m own there closed) n old is = (old, is)
still-there s new event report (server_idle m result own there empty) n old is = (old, is)
still-there s new event report (server_took m result own x queue there first) n old is =
    let t : Taken = taken s.database own.connection.session x result in
    let grown : Scene = record s { database = t.database } in
    there-with grown m (given own queue t.served) n old (same-pairs s grown n refl ∙ is)
still-there s new event report (client_idle m own there empty) n old is = (old, is)
still-there s new event report (client_took m own x queue o c there first step) n old is = there-with s m (acted c (record own.connection { to_client = queue }) o) n old is
