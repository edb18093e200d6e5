-- Client 1 of a world in which a script ran.
use Rattle.std.proofs.Common.{◌≡◌, ℕ, zero, suc, ◌<◌, ◌≤◌, List, [], ◌∷◌, length, replicate, refl, sym, ◌∙◌, ap, subst, arith, Some}
use Rattle.std.specs.Prelude.{slice_get, slice_index_or, Result, flat_map}
use Rattle.std.proofs.lemmas.Option.{slice_get_read, slice_get_within}
use Rattle.sr_cell.specs.declared.fault.Fault.{Fault}
use Rattle.sr_cell.specs.declared.table.Table.{Table}
use Rattle.sr_model.specs.Queries.{Query}
use Rattle.sr_load.specs.declared.fill.Load.{Load}
use Rattle.sr_policy.specs.declared.policy.Limits.{Limits}
use Rattle.sr_query.specs.declared.query.Query as code
use Rattle.sr_reader.specs.Read.{Means}
use Rattle.sr_script.specs.declared.line.TraceLine.{TraceLine}
use Rattle.sr_script.specs.TraceText.{line_text, trace_text}
use Rattle.sr_server.specs.Servers.{IsClientNumber}
use Rattle.sr_explain.specs.Explained.{ExplainStep, count_in}
use Rattle.sr_explain.specs.Telling.{ExplainsTo}
use Rattle.sr_session.specs.Sessions.{tables_of}
use Rattle.sr_session.specs.Clients.{Pair}
use Rattle.sr_session.specs.Scenes.{Event, Report, Scene, Runs, done, next, new_pair, pair_at}
use Rattle.sr_session.specs.Bases.{basis_of}
use Rattle.sr_client.specs.Stands.{Stands}
use Rattle.sr_runs.specs.Runs.{numbered}
use Rattle.sr_runs.proofs.LineLemmas.{numbered-text}
use Rattle.sr_runs.proofs.PairLemmas.{still-there}
use Rattle.sr_runs.proofs.StepLemmas.{runs-lead}
use Rattle.sr_world.specs.declared.seat.Seat.{Seat}
use Rattle.sr_world.specs.declared.world.Options.{Options}
use Rattle.sr_world.specs.declared.world.World.{World}
use Rattle.sr_world.specs.Replay.{Trace, start}
use Rattle.sr_world.specs.Worlds.{IsSeat, Represents}
use Rattle.sr_explained.specs.After.{AreLinesFor, IsTextFor}

-- ---- there is one

-- some client has number 1
abbrev pub HasFirst : Scene → Type 0
HasFirst s = (pair : Pair) × (pair_at s 1 ≡ Some pair)

first-of : {X : Type 0} (n : ℕ) (x : X) → 1 ≤ n → slice_get (replicate n x) 0 ≡ Some x
first-of {X} zero x some = absurd (omega (arith, some))
first-of {X} (suc n) x some = refl

events-keep-first : (s last : Scene) (events : List Event) (reports : List Report) → Runs s events reports last → HasFirst s → HasFirst last
events-keep-first s last events reports (done a) first = first
events-keep-first s last events reports (next a event report mid later told end happens rest) first =
    events-keep-first mid last later told rest (still-there a mid event report happens 1 first.0 first.1)

trace-keeps-first : (options : Options) (script : List ℕ) (loads : List Load) (trace : List ℕ) (last : Scene) → IsClientNumber options.clients
    → Trace options script loads [] trace last → HasFirst last
trace-keeps-first options script loads trace last number t =
    let led = runs-lead options.eager (start options t.end.tables t.tables) t.done t.lines last t.runs in
    events-keep-first (start options t.end.tables t.tables) last led.0 led.1 led.2 (new_pair, first-of options.clients new_pair number.0)

-- so the world has a seat for it
pub has-seat : (options : Options) (script : List ℕ) (loads : List Load) (trace : List ℕ) (last : Scene) (w : World) → IsClientNumber options.clients
    → Trace options script loads [] trace last → Represents w last → 0 < length w.seats.items
has-seat options script loads trace last w number t r =
    let first = trace-keeps-first options script loads trace last number t in
    let count = r.count in
    omega (arith, count, slice_get_within last.pairs 0 first.0 first.1)

-- ---- it stands

there : {X : Type 0} (xs : List X) → 0 < length xs → (x : X) × (slice_get xs 0 ≡ Some x)
there {X} [] some = absurd (omega (arith, some))
there {X} (x ∷ xs) some = (x, refl)

-- the seat of client 1, which is in the scene
pub record FirstSeat (s : Scene) (seat : Seat) : Type 0 where
  pub pair : Pair
  pub is_there : pair_at s 1 ≡ Some pair
  pub own : IsSeat s.database s.limits 1 seat pair

pub first-seat : (w : World) (s : Scene) (seat : Seat) → Represents w s → slice_get w.seats.items 0 ≡ Some seat → FirstSeat s seat
first-seat w s seat r is =
    let count = r.count in
    let found = there s.pairs (omega (arith, count, slice_get_within w.seats.items 0 seat is)) in
    record { pair = found.0; is_there = found.1; own = r.seats 1 seat found.0 is found.1 }

pub seat-there : (w : World) (seat : Seat) → 0 < length w.seats.items → seat ≡ slice_index_or w.seats.items 0 seat → slice_get w.seats.items 0 ≡ Some seat
seat-there w seat some is = slice_get_read w.seats.items (length w.seats.items) 0 seat refl some is

pub stands : (s : Scene) (seat : Seat) → FirstSeat s seat → Stands seat.client
stands s seat f = let c = f.own.client.client in (c.hidden, c.facts)

pub few-regions : (s : Scene) (seat : Seat) → FirstSeat s seat → seat.client.store.limits.regions ≤ 1024
few-regions s seat f = subst (λ (l : Limits). l.regions ≤ 1024) (sym f.own.limits) f.own.regions

-- what a query means to the tables of the server it means to those of the client
pub means-there : (w : World) (s : Scene) (seat : Seat) (query : Result code.Query Fault) (meaning : Result Query Fault) → Represents w s → FirstSeat s seat
    → Means w.server.tables.schema query meaning → Means seat.client.schema query meaning
means-there w s seat query meaning r f means = subst (λ tables. Means tables query meaning) (r.server.knows.schema ∙ f.own.client.schema) means

-- what explains a query to it explains that to client 1 of the scene
pub tells-scene : (s : Scene) (seat : Seat) (meaning : Result Query Fault) (lines : List TraceLine) → FirstSeat s seat → AreLinesFor seat.client meaning lines
    → ExplainsTo s 1 meaning lines
tells-scene s seat meaning lines f tell =
    let told = tell s.database f.pair.client f.own.client in (
      f.pair,
      f.is_there,
      told.0,
      subst (λ limits. ExplainStep (basis_of s.database limits) (count_in (tables_of s.database f.pair.client.version) f.pair.client.marks f.pair.client.queries) f.pair.client meaning told.0) f.own.limits told.1,
      told.2,
    )

-- and the text of these lines is the one for the scene
pub tells-text : (w : World) (s : Scene) (seat : Seat) (meaning : Result Query Fault) (schema : List Table) (lines printed : List TraceLine) (text : List ℕ) → Represents w s → FirstSeat s seat
    → AreLinesFor seat.client meaning lines → schema ≡ w.server.tables.schema → printed ≡ lines → text ≡ flat_map (line_text schema 0) printed → IsTextFor s meaning text
tells-text w s seat meaning schema lines printed text r f tell known as_told same =
    (lines, tells-scene s seat meaning lines f tell, same ∙ numbered-text schema 0 printed ∙ ap (λ tables. trace_text tables (numbered 0 printed)) (known ∙ r.server.knows.schema) ∙ ap (λ ls. trace_text s.database.schema (numbered 0 ls)) as_told)
