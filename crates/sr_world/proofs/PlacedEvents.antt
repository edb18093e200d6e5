-- The lines of a replay can be printed.
use Rattle.std.proofs.Common.{◌≡◌, ◌+◌, ◌*◌, ◌/◌, ◌^◌, ◌<◌, ℕ, true, List, [], ◌∷◌, ◌++◌, length, refl, sym, subst, arith, Ok, Err}
use Rattle.std.specs.Prelude.{◌==◌, Result}
use Rattle.std.specs.List.{list_all, AllByRecursion, AllZip}
use Rattle.std.proofs.lemmas.Bool.{and_parts}
use Rattle.std.proofs.lemmas.Bool.Decides.{nat_tests}
use Rattle.sr_cell.specs.declared.fault.Fault.{Fault}
use Rattle.sr_cell.specs.declared.table.Table.{Table}
use Rattle.sr_cell.specs.Columns.{table_at}
use Rattle.sr_model.specs.Queries as model
use Rattle.sr_model.specs.Statements.{Tables}
use Rattle.sr_query.specs.Bound.{is_table}
use Rattle.sr_query.specs.declared.query.Query.{Query}
use Rattle.sr_lines.specs.Events.{ScriptEvent}
use Rattle.sr_lines.specs.Own.{part_needs_own}
use Rattle.sr_lines.specs.Sound.{is_needed, is_sound_part}
use Rattle.sr_reader.specs.Read.{IsEvent, IsEventLine, Means}
use Rattle.sr_reader.specs.declared.script.Event as code
use Rattle.sr_reader.specs.declared.script.Event.TheVariants as read
use Rattle.sr_reader.specs.declared.script.EventLine.{EventLine}
use Rattle.sr_script.specs.declared.line.TraceLine.{TraceLine}
use Rattle.sr_script.specs.Printable.{IsNumbered, IsPlaced}
use Rattle.sr_session.specs.Scenes.{Scene}
use Rattle.sr_runs.specs.Runs.{Runs}
use Rattle.sr_world.specs.declared.world.Options.{Options}
use Rattle.sr_world.specs.declared.world.World.{World}
use Rattle.sr_world.specs.Ran.{NumbersFit}
use Rattle.sr_world.specs.Replay.{start}
use Rattle.sr_world.specs.Worlds.{Represents}
use Rattle.sr_world.proofs.Placed.{IsPlacedPart, below}
use Rattle.sr_world.proofs.PlacedExplained.{IsPlacedText}
use Rattle.sr_world.proofs.PlacedRuns.{IsPlacedEvent, lines-placed}
use Rattle.sr_world.proofs.Sound.{sound-of}

-- ---- what events ask

part-placed : (schema : List Table) (part : model.Part) → is_sound_part schema part ≡ true → part_needs_own schema part ≡ true → IsPlacedPart schema part
part-placed schema part sound own = (there, below part.need (length (table_at schema part.table).columns) (by (part.need / 2 ^ length (table_at schema part.table).columns) own))
  where
    there : part.table < length schema
    there = grind (arith, nat_tests, sound)

    by : (m : ℕ) → (m == 0) ≡ true → m ≡ 0
    by m e = grind (arith, nat_tests, e)

parts-placed : (schema : List Table) (parts : List model.Part) → list_all (is_sound_part schema) parts ≡ true → list_all (part_needs_own schema) parts ≡ true
    → AllByRecursion (IsPlacedPart schema) parts
parts-placed schema [] sound own = tt
parts-placed schema (part ∷ parts) sound own =
    let s = and_parts (is_sound_part schema part) (list_all (is_sound_part schema) parts) sound in
    let o = and_parts (part_needs_own schema part) (list_all (part_needs_own schema) parts) own in
    (part-placed schema part s.0 o.0, parts-placed schema parts s.1 o.1)

text-placed : (schema : List Table) (query : Result Query Fault) (meaning : Result model.Query Fault) → Means schema query meaning → IsPlacedText schema meaning
text-placed schema (Ok q) (Ok meaning) means =
    parts-placed schema meaning.parts (and_parts (list_all (is_sound_part schema) meaning.parts) (list_all (is_needed meaning.parts) meaning.outputs) means.3).0 means.4
text-placed schema (Ok q) (Err fault) means = absurd means
text-placed schema (Err fault) (Ok meaning) means = absurd means
text-placed schema (Err fault) (Err other) means = tt

event-placed : (schema : List Table) (event : code.Event) (what : ScriptEvent) → IsEvent schema event what → IsPlacedEvent schema what
event-placed schema (read.Exec statement) what is = subst (IsPlacedEvent schema) (sym is) tt
event-placed schema (read.Query n query) what is = subst (IsPlacedEvent schema) (sym is.2) (text-placed schema query is.0 is.1)
event-placed schema (read.Write n sql) what is = subst (IsPlacedEvent schema) (sym is) tt
event-placed schema (read.Explain n query) what is = subst (IsPlacedEvent schema) (sym is.2) (text-placed schema query is.0 is.1)
event-placed schema (read.Push n) what is = subst (IsPlacedEvent schema) (sym is) tt
event-placed schema (read.ToServer n) what is = subst (IsPlacedEvent schema) (sym is) tt
event-placed schema (read.ToClient n) what is = subst (IsPlacedEvent schema) (sym is) tt
event-placed schema (read.Settle n) what is = subst (IsPlacedEvent schema) (sym is) tt
event-placed schema (read.Evict n place) what is = subst (IsPlacedEvent schema) (sym is) tt
event-placed schema (read.Cut n) what is = subst (IsPlacedEvent schema) (sym is) tt
event-placed schema (read.Resume n) what is = subst (IsPlacedEvent schema) (sym is) tt

abbrev pub ArePlacedEvents : List Table → List (ℕ × ScriptEvent) → Type 0
ArePlacedEvents schema events = AllByRecursion (λ (e : ℕ × ScriptEvent). IsPlacedEvent schema e.1) events

pub events-placed : (schema : List Table) (lines : List EventLine) (events : List (ℕ × ScriptEvent)) → AllZip (IsEventLine schema) lines events → ArePlacedEvents schema events
events-placed schema [] [] are = tt
events-placed schema [] (e ∷ events) are = absurd are
events-placed schema (l ∷ lines) [] are = absurd are
events-placed schema (l ∷ lines) (e ∷ events) are =
    let own = event-placed schema l.event are.0.0 are.0.1 in
    (subst (λ (x : ℕ × ScriptEvent). IsPlacedEvent schema x.1) (sym are.0.2) own, events-placed schema lines events are.1)

front-placed : (schema : List Table) (done left : List (ℕ × ScriptEvent)) → ArePlacedEvents schema (done ++ left) → ArePlacedEvents schema done
front-placed schema [] left all = tt
front-placed schema (e ∷ done) left all = (all.0, front-placed schema done left all.1)

-- those that ran, of all events
pub first-events : (schema : List Table) (lines : List EventLine) (events done left : List (ℕ × ScriptEvent)) → events ≡ done ++ left → AllZip (IsEventLine schema) lines events
    → ArePlacedEvents schema done
first-events schema lines events done left split are = front-placed schema done left (subst (ArePlacedEvents schema) split (events-placed schema lines events are))

-- ---- lines

each-printable : (schema : List Table) (lines : List (ℕ × TraceLine)) → AllByRecursion (NumbersFit schema) lines → AllByRecursion (λ (l : ℕ × TraceLine). IsPlaced schema l.1) lines
    → AllByRecursion (IsNumbered schema) lines
each-printable schema [] fit placed = tt
each-printable schema (l ∷ lines) fit placed = ((fit.0.0, fit.0.1 placed.0), each-printable schema lines fit.1 placed.1)

pub printable : (options : Options) (schema : List Table) (tables : Tables) (events : List (ℕ × ScriptEvent)) (lines : List (ℕ × TraceLine)) (kept : World) (last : Scene)
    → list_all is_table schema ≡ true → ArePlacedEvents schema events → Represents kept last → Runs options.eager (start options schema tables) events lines last
    → AllByRecursion (NumbersFit schema) lines → AllByRecursion (IsNumbered schema) lines
printable options schema tables events lines kept last sound own rep run fit =
    each-printable schema lines fit
    (lines-placed options.eager options.limits schema options.log tables options.clients events lines last sound own (sound-of last.database rep.server.sound).tables run)
