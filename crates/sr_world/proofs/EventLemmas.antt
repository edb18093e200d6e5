-- What a world does, by what one of its seats does.
use Rattle.std.proofs.Common.{◌≡◌, ℕ, zero, suc, ◌+◌, ◌-◌, ◌<◌, ◌≤◌, ◌^◌, List, [], ◌∷◌, ◌++◌, length, refl, sym, ◌∙◌, ap, subst, arith, append_assoc, append-nil, Some, Result, Ok, Err}
use Rattle.std.specs.Prelude.{IfOk, OnOk, slice_get, slice_index_or, slice_set, sum_by}
use Rattle.std.proofs.lemmas.List.{length-append, length-set}
use Rattle.std.proofs.lemmas.Option.{slice_get_read}
use Rattle.sr_cell.specs.declared.fault.Fault.{Fault}
use Rattle.sr_log.specs.Held.{newest as newest_of}
use Rattle.sr_log.specs.Held.{Held}
use Rattle.sr_model.specs.Statements.{Write, executed}
use Rattle.sr_script.specs.declared.line.TraceLine.{TraceLine}
use Rattle.sr_script.specs.declared.line.TraceLine.TheVariants as line
use Rattle.sr_lines.specs.Events.{DoExec}
use Rattle.sr_session.specs.Sessions.{Database, newest, tables_of, with_version}
use Rattle.sr_session.specs.Clients.{Pair}
use Rattle.sr_session.specs.Scenes.{Exec, Executed, NotExecuted, Scene, executed as happens_executed, not_executed}
use Rattle.sr_session.proofs.EventLemmas.{events-keep, same-pairs}
use Rattle.sr_client.specs.declared.client.Client.{Client}
use Rattle.sr_client.specs.Stands.{drawn as client_drawn}
use Rattle.sr_server.specs.declared.server.Server.{Server}
use Rattle.std.specs.List.{All}
use Rattle.sr_server.specs.Servers.{IsServer, IsSessionIf, session_at}
use Rattle.sr_server.proofs.Entries.{newest-is}
use Rattle.sr_server.proofs.Standing.{stands-still}
use Rattle.sr_runs.specs.Runs.{Acts, AllSettle, acts, no_client, one_more, Settles}
use Rattle.sr_runs.specs.Scripts.{Is, is_exec}
use Rattle.sr_world.specs.declared.seat.Deliveries.{Deliveries}
use Rattle.sr_world.specs.declared.seat.Seat.{Seat}
use Rattle.sr_world.specs.declared.world.World.{World}
use Rattle.sr_world.specs.Seats.{IsSomeSeat, SeatGoes}
use Rattle.sr_world.specs.Worlds.{Goes, IsNumber, IsSeat, SameSetting, StandsForSome, drawn, drawn_by, potential, seat_at, weight}
use Rattle.sr_world.proofs.Over.{Grows, grows-more}
use Rattle.sr_world.proofs.SeatLemmas.{set-same}
use Rattle.sr_world.proofs.Sound.{sound-of}
use Rattle.sr_world.proofs.Sums.{sum-set}
use Rattle.sr_world.proofs.WorldLemmas.{one-seat, seat-stands, seat-within}

-- ---- the seat of a number

place-of : (w : World) (n : ℕ) → IsNumber w n → n ≡ suc (n - 1)
place-of w n number = omega (arith, number.0)

there-of : (w : World) (n : ℕ) (seat : Seat) → IsNumber w n → seat ≡ slice_index_or w.seats.items (n - 1) seat → slice_get w.seats.items (n - 1) ≡ Some seat
there-of w n seat number is = slice_get_read w.seats.items (length w.seats.items) (n - 1) seat refl (omega (arith, number.0, number.1)) is

pub some-seat : (w : World) (n : ℕ) (seat : Seat) → StandsForSome w → IsNumber w n → seat ≡ slice_index_or w.seats.items (n - 1) seat → IsSomeSeat seat w.server
some-seat w n seat some number is = (some.0, suc (n - 1), seat-stands w some.0 (n - 1) seat some.1 (there-of w n seat number is))

-- what its client needs, and its schema
pub seat-schema : (w : World) (n : ℕ) (seat : Seat) → StandsForSome w → IsNumber w n → seat ≡ slice_index_or w.seats.items (n - 1) seat → seat.client.schema ≡ w.server.tables.schema
seat-schema w n seat some number is =
    let h = (some-seat w n seat some number is).2 in
    sym h.seat.client.schema ∙ sym h.server.knows.schema

-- the numbers of a seat are among those of the world
pub seat-room : (f : Seat → ℕ) (w : World) (n k : ℕ) (seat : Seat) → IsNumber w n → seat ≡ slice_index_or w.seats.items (n - 1) seat → (newest_of w.server.log + sum_by f w.seats.items) + k < 2 ^ 63
    → newest_of w.server.log + f seat + k < 2 ^ 63
seat-room f w n k seat number is room = let within = seat-within f w (n - 1) seat (there-of w n seat number is) in omega (arith, within, room)

-- ---- what the world does

pub world-goes : {E : Type 0} (Leads : ℕ → Scene → List TraceLine → Scene → Type 0) (old new : World) (n : ℕ) (seat after : Seat) (r : Result (List TraceLine) E)
    → IsNumber old n → seat ≡ slice_index_or old.seats.items (n - 1) seat → new.seats.items ≡ slice_set old.seats.items (n - 1) after → new.spent ≡ old.spent
    → IfOk r (SeatGoes Leads seat old.server after new.server) → IfOk r (Goes (Leads n) old new)
world-goes {E} Leads old new n seat after (Ok lines) number is made spent goes =
    one-seat Leads old new n (n - 1) seat after lines (place-of old n number) (there-of old n seat number is) made spent goes
world-goes {E} Leads old new n seat after (Err e) number is made spent goes = tt

-- a seat is looked at, and nothing changes
pub world-looks : {E : Type 0} (Leads : ℕ → Scene → List TraceLine → Scene → Type 0) (w : World) (n : ℕ) (seat : Seat) (r : Result (List TraceLine) E)
    → IsNumber w n → seat ≡ slice_index_or w.seats.items (n - 1) seat → IfOk r (SeatGoes Leads seat w.server seat w.server) → IfOk r (Goes (Leads n) w w)
world-looks {E} Leads w n seat r number is goes =
    world-goes Leads w w n seat seat r number is (sym (set-same w.seats.items (n - 1) seat (there-of w n seat number is))) refl goes

-- a client draws numbers, and the server none
pub world-drawn : {T E : Type 0} (w : World) (n : ℕ) (seat after : Seat) (log : Held) (r : Result T E) → IsNumber w n → seat ≡ slice_index_or w.seats.items (n - 1) seat
    → newest_of log ≡ newest_of w.server.log → OnOk r (drawn_by after ≤ drawn_by seat + 2) → OnOk r (newest_of log + sum_by drawn_by (slice_set w.seats.items (n - 1) after) ≤ drawn w + 2)
world-drawn {T} {E} w n seat after log (Ok x) number is same few =
    let sum : sum_by drawn_by (slice_set w.seats.items (n - 1) after) + drawn_by seat ≡ sum_by drawn_by w.seats.items + drawn_by after = sum-set drawn_by w.seats.items (n - 1) seat after (there-of w n seat number is) in
    omega (arith, same, few, sum)
world-drawn {T} {E} w n seat after log (Err e) number is same few = tt

pub world-lightens : {T E : Type 0} (w : World) (n : ℕ) (seat after : Seat) (log : Held) (r : Result T E) → IsNumber w n → seat ≡ slice_index_or w.seats.items (n - 1) seat
    → OnOk r (newest_of log + weight after ≤ newest_of w.server.log + weight seat) → OnOk r (newest_of log + sum_by weight (slice_set w.seats.items (n - 1) after) ≤ potential w)
world-lightens {T} {E} w n seat after log (Ok x) number is light =
    let sum : sum_by weight (slice_set w.seats.items (n - 1) after) + weight seat ≡ sum_by weight w.seats.items + weight after = sum-set weight w.seats.items (n - 1) seat after (there-of w n seat number is) in
    omega (arith, light, sum)
world-lightens {T} {E} w n seat after log (Err e) number is light = tt

-- a statement makes one version at most
pub exec-draws : {T E : Type 0} (w : World) (after : Server) (r : Result T E) → StandsForSome w → ((db : Database) → IsServer w.server db → IsServer after (with_version db after.tables.rows)) → OnOk r (newest_of after.log + sum_by drawn_by w.seats.items ≤ drawn w + 2)
exec-draws {T} {E} w after (Ok x) some stands =
    let db = some.0.database in
    let is = stands db some.1.server in
    let before = newest-is db w.server.log some.1.server.knows.log in
    let later = newest-is (with_version db after.tables.rows) after.log is.knows.log in
    let more = length-append db.versions (after.tables.rows ∷ []) in
    omega (arith, before, later, more)
exec-draws {T} {E} w after (Err e) some stands = tt

pub same-setting : (old new : World) (place : ℕ) (after : Seat) → new.eager ≡ old.eager → new.seats.items ≡ slice_set old.seats.items place after → new.server.tables.schema ≡ old.server.tables.schema
    → SameSetting old new
same-setting old new place after eager made schema = record { eager = eager; count = ap length made ∙ length-set old.seats.items place after; schema = schema }

-- ---- statements of the server's own

-- over a grown database each seat is that of its client
kept : (db next : Database) (s : Scene) (n : ℕ) (seat : Seat) (pair : Pair) → Grows db next → IsSeat db s.limits n seat pair → IsSeat next s.limits n seat pair
kept db next s n seat pair grows own = record {
  number = own.number;
  limits = own.limits;
  regions = own.regions;
  client = grows.clients pair.client seat.client own.client;
  to_server = own.to_server;
  to_client = own.to_client;
  requests = rw grows.schema own.requests;
}

pub exec-done : (old new : World) (write : Write) (version : ℕ)
    → executed old.server.tables.schema write old.server.tables.rows ≡ Ok new.server.tables.rows → version ≡ newest_of old.server.log + 1
    → ((db : Database) → IsServer old.server db → IsServer new.server (with_version db new.server.tables.rows)) → new.server.sessions ≡ old.server.sessions
    → new.seats.items ≡ old.seats.items → new.spent ≡ old.spent → Goes (λ s. Acts s (DoExec (Ok write))) old new (line.ExecVersion version ∷ [])
exec-done old new write version does number stands sessions seats spent = λ s r.
    let db = s.database in
    let tables = new.server.tables.rows in
    let is = stands db r.server in
    let next : Scene = record s { database = with_version db tables } in
    let grows = grows-more db tables (sound-of (with_version db tables) is.sound) in
    let made : executed db.schema write (tables_of db (newest db)) ≡ Ok tables =
    ap (λ schema. executed schema write (tables_of db (newest db))) (sym r.server.knows.schema) ∙ (ap (λ rows. executed old.server.tables.schema write rows) (sym r.server.knows.rows) ∙ does) in
    let happens = happens_executed tables in
    let newer : version ≡ newest db + 1 = number ∙ ap (λ v. v + 1) (newest-is db old.server.log r.server.knows.log) in (
      next,
      subst (λ v. Acts s (DoExec (Ok write)) (line.ExecVersion v ∷ []) next) (sym newer)
          (acts (DoExec (Ok write)) (Exec (Ok tables)) (Executed (newest db + 1)) next (subst (λ x. Is s (DoExec (Ok write)) (Exec x)) made (is_exec (Ok write))) happens),
      record {
        ready = spent ∙ r.ready;
        server = is;
        sessions = λ k pair there. ap (λ ss. session_at ss k) sessions ∙ r.sessions k pair (sym (same-pairs s next k refl) ∙ there);
        count = ap length seats ∙ r.count;
        few = r.few;
        seats = λ k seat pair there pair_is. kept db (with_version db tables) s k seat pair grows
            (r.seats k seat pair (sym (same-seats k) ∙ there) (sym (same-pairs s next k refl) ∙ pair_is));
        stands = events-keep s next (Exec (Ok tables)) (Executed (newest db + 1)) r.stands happens;
      },
    )
  where
    same-seats : (k : ℕ) → seat_at new k ≡ seat_at old k
    same-seats zero = refl
    same-seats (suc k) = ap (λ ss. slice_get ss k) seats

pub exec-refused : (old new : World) (write : Write) (fault : Fault) → executed old.server.tables.schema write old.server.tables.rows ≡ Err fault
    → new.server ≡ record old.server { log = record old.server.log { room = new.server.log.room } } → new.seats.items ≡ old.seats.items → new.spent ≡ old.spent
    → Goes (λ s. Acts s (DoExec (Ok write))) old new (line.ExecRefused fault ∷ [])
exec-refused old new write fault does rest seats spent = λ s r.
    let db = s.database in
    let made : executed db.schema write (tables_of db (newest db)) ≡ Err fault =
    ap (λ schema. executed schema write (tables_of db (newest db))) (sym r.server.knows.schema) ∙ (ap (λ rows. executed old.server.tables.schema write rows) (sym r.server.knows.rows) ∙ does) in
    let sessions : new.server.sessions ≡ old.server.sessions = ap (λ (x : Server). x.sessions) rest in (
      s,
      acts (DoExec (Ok write)) (Exec (Err fault)) (NotExecuted fault) s (subst (λ x. Is s (DoExec (Ok write)) (Exec x)) made (is_exec (Ok write))) (not_executed fault),
      record {
        ready = spent ∙ r.ready;
        server = stands-still old.server new.server db r.server (ap (λ (x : Server). x.tables) rest) (ap (λ (x : Server). x.log) rest)
            (subst (λ ss. All (IsSessionIf db) ss) (sym sessions) r.server.sessions) (ap length sessions ∙ r.server.count);
        sessions = λ k pair there. ap (λ ss. session_at ss k) sessions ∙ r.sessions k pair there;
        count = ap length seats ∙ r.count;
        few = r.few;
        seats = λ k seat pair there pair_is. r.seats k seat pair (sym (same-seats k) ∙ there) pair_is;
        stands = r.stands;
      },
    )
  where
    same-seats : (k : ℕ) → seat_at new k ≡ seat_at old k
    same-seats zero = refl
    same-seats (suc k) = ap (λ ss. slice_get ss k) seats

-- ---- deliveries of all clients

-- What settles from the next client on settles from the first one with these.
abbrev pub Leaves : ℕ → Scene → List TraceLine → Scene → Type 0
Leaves done s lines next = (left : ℕ) (rest : List TraceLine) (last : Scene) → AllSettle (done + 1) left next rest last → AllSettle 1 (done + left) s (lines ++ rest) last

pub leaves-none : (w : World) → Goes (Leaves 0) w w []
leaves-none w = λ s r. (
  s,
  (λ left rest last all.
      let from : 0 + 1 ≡ 1 = omega arith in
      let sum : left ≡ 0 + left = omega arith in
      subst (λ k. AllSettle 1 k s rest last) sum (subst (λ k. AllSettle k left s rest last) from all)),
  r,
)

pub leaves-more : (done frames : ℕ) (old mid new : World) (lines more : List TraceLine) → Goes (Leaves done) old mid lines → Goes (λ s. Settles (done + 1) s frames) mid new more
    → Goes (Leaves (done + 1)) old new (lines ++ more)
leaves-more done frames old mid new lines more first later = λ s r.
    let x = first s r in
    let y = later x.0 x.2 in (
      y.0,
      (λ left rest last all.
          let both = x.1 (suc left) (more ++ rest) last (one_more (done + 1) left x.0 frames more y.0 rest last y.1 all) in
          let sum : done + suc left ≡ (done + 1) + left = omega arith in
          subst (λ k. AllSettle 1 k s ((lines ++ more) ++ rest) last) sum (subst (λ ls. AllSettle 1 (done + suc left) s ls last) (sym (append_assoc lines more rest)) both)),
      y.2,
    )

pub leaves-all : (count : ℕ) (old new : World) (lines : List TraceLine) → Goes (Leaves count) old new lines → Goes (AllSettle 1 count) old new lines
leaves-all count old new lines goes = λ s r.
    let x = goes s r in
    let all = x.1 0 [] x.0 (no_client (count + 1) x.0) in
    let sum : count + 0 ≡ count = omega arith in
    (x.0, subst (λ k. AllSettle 1 k s lines x.0) sum (subst (λ ls. AllSettle 1 (count + 0) s ls x.0) (append-nil lines) all), x.2)

-- a world that stood for a scene still does
pub goes-on : (Leads : Scene → List TraceLine → Scene → Type 0) (old new : World) (lines : List TraceLine) → StandsForSome old → Goes Leads old new lines → StandsForSome new
goes-on Leads old new lines some goes = let x = goes some.0 some.1 in (x.0, x.2)

-- ---- more of seats and worlds

pub unchanged-draws : {T E : Type 0} (old new : Seat) (r : Result T E) → new.client ≡ old.client → OnOk r (drawn_by new ≤ drawn_by old + 2)
unchanged-draws {T} {E} old new (Ok x) same = let e : drawn_by new ≡ drawn_by old = ap (λ (c : Client). client_drawn c + c.cuts) same in omega (arith, e)
unchanged-draws {T} {E} old new (Err e) same = tt

pub lighter-client : {T E : Type 0} (server : Server) (old new : Seat) (r : Result T E) → OnOk r (weight new ≤ weight old) → OnOk r (newest_of server.log + weight new ≤ newest_of server.log + weight old)
lighter-client {T} {E} server old new (Ok x) light = omega (arith, light)
lighter-client {T} {E} server old new (Err e) light = tt

pub world-settles : {E : Type 0} (old new : World) (n : ℕ) (seat after : Seat) (r : Result Deliveries E) → IsNumber old n → seat ≡ slice_index_or old.seats.items (n - 1) seat
    → new.seats.items ≡ slice_set old.seats.items (n - 1) after → new.spent ≡ old.spent
    → IfOk r (λ done. SeatGoes (λ k s. Settles k s done.frames) seat old.server after new.server done.lines) → IfOk r (λ done. Goes (λ s. Settles n s done.frames) old new done.lines)
world-settles {E} old new n seat after (Ok done) number is made spent goes =
    one-seat (λ k s. Settles k s done.frames) old new n (n - 1) seat after done.lines (place-of old n number) (there-of old n seat number is) made spent goes
world-settles {E} old new n seat after (Err e) number is made spent goes = tt

pub setting-twice : (one two three : World) → SameSetting one two → SameSetting two three → SameSetting one three
setting-twice one two three a b = record { eager = b.eager ∙ a.eager; count = b.count ∙ a.count; schema = b.schema ∙ a.schema }
