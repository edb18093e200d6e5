-- Reading the events of a script, one line after another.
use Rattle.std.proofs.Common.{◌≡◌, ℕ, ◌+◌, ◌≤◌, true, List, [], ◌∷◌, ◌++◌, length, refl, sym, ap, subst, ◌∙◌, arith, append_assoc, append-nil}
use Rattle.std.specs.Prelude.{Option, Some, None, Result, Ok}
use Rattle.std.specs.List.{list_all, AllZip}
use Rattle.std.proofs.lemmas.List.{length-append}
use Rattle.sr_cell.specs.declared.table.Table.{Table}
use Rattle.sr_cell.proofs.Lists.{list_all-push, AllZip-push}
use Rattle.sr_lines.specs.Events.{ScriptEvent}
use Rattle.sr_lines.specs.Lines.{lines_of}
use Rattle.sr_lines.specs.Script.{Words, Line, Silent, CreateLine, EventLine as EventOf, line_of, Stage, Creating, Running, LinePlace, outside_from, first_outside, Phase, start_phase, Means, LineDoes, Reads}
use Rattle.sr_lines.specs.Creates.{CreatesFrom, Creates}
use Rattle.sr_lines.proofs.Parts.{events_name_clients}
use Rattle.sr_reader.specs.declared.script.Event.{Event}
use Rattle.sr_reader.specs.declared.script.EventLine.{EventLine}
use Rattle.sr_reader.specs.declared.words.Words as written
use Rattle.sr_reader.specs.declared.line.Line as code
use Rattle.sr_reader.specs.declared.line.Line.TheVariants as read
use Rattle.sr_reader.specs.Lined.{IsLine, AreOf}
use Rattle.sr_reader.specs.Meaning.{IsSaid}
use Rattle.sr_reader.specs.Read.{IsEventLine, IsRead, event_fits}
use Rattle.sr_reader.proofs.Fronts.{event_of_line}
use Rattle.sr_reader.proofs.Stages.{few_lines}

-- among the CREATE lines the schema is what they still make of these tables; among the events it is these
abbrev Waits : ℕ → List Table → List Table → Stage → List (List ℕ) → Type 0
Waits clients schema tables Creating rest = Creates clients tables rest schema
Waits clients schema tables Running rest = schema ≡ tables

abbrev phase_of : List Table → Stage → Phase
phase_of tables stage = record { tables = tables; stage = stage }

-- what the walk keeps: what the rest says from here, the whole says with this in front
pub record Walked (clients : ℕ) (bytes : List ℕ) (schema : List Table) (number : ℕ) (rest : List (List ℕ)) (events : List EventLine) : Type 0 where
  pub tables : List Table
  pub stage : Stage
  pub waits : Waits clients schema tables stage rest
  pub inside : first_outside clients number stage rest ≡ None
  pub before : List (ℕ × ScriptEvent)
  pub are : AllZip (IsEventLine schema) events before
  pub few : length events + length rest ≤ length (lines_of bytes)
  pub fits : list_all (λ line. event_fits clients schema line.event) events ≡ true
  pub reads : (others : List (ℕ × ScriptEvent)) (end : Phase) → Reads clients number (phase_of tables stage) rest others end → Reads clients 1 start_phase (lines_of bytes) (before ++ others) end

pub walked_start : (clients : ℕ) (bytes : List ℕ) (schema : List Table) (lines : List code.Line) → AreOf clients bytes schema lines → Walked clients bytes schema 1 (lines_of bytes) []
walked_start clients bytes schema lines script = record {
  tables = [];
  stage = Creating;
  waits = script.created;
  inside = script.inside;
  before = [];
  are = tt;
  few = omega arith;
  fits = refl;
  reads = λ others end reads. reads;
}

-- ---- what a line of each kind leaves

some_none : (place : LinePlace) → (let here : Option LinePlace = Some place in here) ≡ None → ⊥
some_none place e = cc

silent_waits : (clients : ℕ) (schema tables : List Table) (stage : Stage) (text : List ℕ) (after : List (List ℕ)) → line_of clients text ≡ Ok Silent → Waits clients schema tables stage (text ∷ after) → Waits clients schema tables stage after
silent_waits clients schema tables Creating text after is waits = subst (CreatesFrom tables (λ known. Creates clients known after schema) schema) is waits
silent_waits clients schema tables Running text after is waits = waits

silent_inside : (i : ℕ) (later : Stage → Option LinePlace) (stage : Stage) → outside_from i later stage (Ok Silent) ≡ later stage
silent_inside i later Creating = refl
silent_inside i later Running = refl

event_inside : (i : ℕ) (later : Stage → Option LinePlace) (stage : Stage) (words : Words) → outside_from i later stage (Ok (EventOf words)) ≡ later Running
event_inside i later Creating words = refl
event_inside i later Running words = refl

event_waits : (clients : ℕ) (schema tables : List Table) (stage : Stage) (text : List ℕ) (after : List (List ℕ)) (words : Words) → line_of clients text ≡ Ok (EventOf words) → Waits clients schema tables stage (text ∷ after) → schema ≡ tables
event_waits clients schema tables Creating text after words is waits = subst (CreatesFrom tables (λ known. Creates clients known after schema) schema) is waits
event_waits clients schema tables Running text after words is waits = waits

module _ (clients : ℕ) (bytes : List ℕ) (schema : List Table) (number : ℕ) (rest after : List (List ℕ)) (text : List ℕ) (events : List EventLine) (walked : Walked clients bytes schema number rest events) (cut : rest ≡ text ∷ after) where
  waits_here : Waits clients schema walked.tables walked.stage (text ∷ after)
  waits_here = subst (Waits clients schema walked.tables walked.stage) cut walked.waits

  later : Stage → Option LinePlace
  later next = first_outside clients (number + 1) next after

  inside_here : (line : Result Line ℕ) → line_of clients text ≡ line → outside_from number (λ next. first_outside clients (number + 1) next after) walked.stage line ≡ None
  inside_here line is =
      let here : first_outside clients number walked.stage (text ∷ after) ≡ None = subst (λ z. first_outside clients number walked.stage z ≡ None) cut walked.inside in
      subst (λ z. outside_from number (λ next. first_outside clients (number + 1) next after) walked.stage z ≡ None) is here

  -- the line does this, and the script goes on from there
  step : (some : List (ℕ × ScriptEvent)) (tables : List Table) (stage : Stage) (new : List EventLine) → LineDoes (phase_of walked.tables walked.stage) number (line_of clients text) some (phase_of tables stage)
      → Waits clients schema tables stage after → first_outside clients (number + 1) stage after ≡ None → AllZip (IsEventLine schema) new (walked.before ++ some) → length new ≤ length events + 1
      → list_all (λ line. event_fits clients schema line.event) new ≡ true → Walked clients bytes schema (number + 1) after new
  step some tables stage new does waits inside are long fits = record {
    tables = tables;
    stage = stage;
    waits = waits;
    inside = inside;
    before = walked.before ++ some;
    are = are;
    few = let few = walked.few in let one = ap length cut in omega (arith, few, one, long);
    fits = fits;
    reads = λ others end reads.
        let here : Reads clients number (phase_of walked.tables walked.stage) rest (some ++ others) end =
        subst (λ z. Reads clients number (phase_of walked.tables walked.stage) z (some ++ others) end) (sym cut) (some, others, phase_of tables stage, does, reads, refl) in
        subst (λ z. Reads clients 1 start_phase (lines_of bytes) z end) (sym (append_assoc walked.before some others)) (walked.reads (some ++ others) end here);
  }

  same : AllZip (IsEventLine schema) events (walked.before ++ [])
  same = subst (AllZip (IsEventLine schema) events) (sym (append-nil walked.before)) walked.are

  pub walked_silent : line_of clients text ≡ Ok Silent → Walked clients bytes schema (number + 1) after events
  walked_silent is =
      let phase = phase_of walked.tables walked.stage in
      let does : LineDoes phase number (line_of clients text) [] phase = subst (λ z. LineDoes phase number z [] phase) (sym is) (refl, refl) in
      step [] walked.tables walked.stage events does (silent_waits clients schema walked.tables walked.stage text after is waits_here)
      (sym (silent_inside number (λ next. first_outside clients (number + 1) next after) walked.stage) ∙ inside_here (Ok Silent) is) same (omega arith) walked.fits

  create_step : (sql : List ℕ) (stage : Stage) → stage ≡ walked.stage → line_of clients text ≡ Ok (CreateLine sql) → Waits clients schema walked.tables stage (text ∷ after)
      → outside_from number (λ next. first_outside clients (number + 1) next after) stage (Ok (CreateLine sql)) ≡ None → Walked clients bytes schema (number + 1) after events
  create_step sql Running at is waits inside = absurd (some_none _ inside)
  create_step sql Creating at is waits inside =
      let made = subst (CreatesFrom walked.tables (λ known. Creates clients known after schema) schema) is waits in
      let next = phase_of (walked.tables ++ made.0 ∷ []) Creating in
      let here : LineDoes (phase_of walked.tables Creating) number (Ok (CreateLine sql)) [] next = (made.0, made.1, refl, refl, refl) in
      let there = subst (λ z. LineDoes (phase_of walked.tables z) number (Ok (CreateLine sql)) [] next) at here in
      let does : LineDoes (phase_of walked.tables walked.stage) number (line_of clients text) [] next = subst (λ z. LineDoes (phase_of walked.tables walked.stage) number z [] next) (sym is) there in
      step [] (walked.tables ++ made.0 ∷ []) Creating events does made.2 inside same (omega arith) walked.fits

  pub walked_create : (sql : List ℕ) → line_of clients text ≡ Ok (CreateLine sql) → Walked clients bytes schema (number + 1) after events
  walked_create sql is = create_step sql walked.stage refl is waits_here (inside_here (Ok (CreateLine sql)) is)

  -- a line that is no event
  pub walked_quiet : (line : code.Line) → IsLine clients text line → ((words : written.Words) → line ≡ read.Event words → ⊥) → Walked clients bytes schema (number + 1) after events
  walked_quiet read.Silent is other = walked_silent is
  walked_quiet (read.Create sql) is other = walked_create sql.now is
  walked_quiet (read.Event words) is other = absurd (other words refl)

  pub walked_event : (words : Words) (event : Event) → line_of clients text ≡ Ok (EventOf words) → IsSaid schema words event
      → Walked clients bytes schema (number + 1) after (events ++ record { number = number; event = event } ∷ [])
  walked_event words event is said =
      let tables : schema ≡ walked.tables = event_waits clients schema walked.tables walked.stage text after words is waits_here in
      let next = phase_of walked.tables Running in
      let some = (number, said.0) ∷ [] in
      let means : Means walked.tables words said.0 = subst (λ z. Means z words said.0) tables said.1 in
      let phase = phase_of walked.tables walked.stage in
      let does : LineDoes phase number (line_of clients text) some next = subst (λ z. LineDoes phase number z some next) (sym is) (said.0, means, refl, refl) in
      let names = events_name_clients clients text words (event_of_line clients text words is) in
      let line : EventLine = record { number = number; event = event } in
      step some walked.tables Running (events ++ line ∷ []) does tables
      (sym (event_inside number (λ next. first_outside clients (number + 1) next after) walked.stage words) ∙ inside_here (Ok (EventOf words)) is)
      (AllZip-push (IsEventLine schema) events walked.before line (number, said.0) walked.are (said.0, said.2, refl)) (let e = length-append events (line ∷ []) in omega (arith, e))
      (list_all-push (λ l. event_fits clients schema l.event) events line walked.fits (said.3 clients names))

-- ---- the end of the walk

end_tables : (clients : ℕ) (schema tables : List Table) (stage : Stage) → Waits clients schema tables stage [] → tables ≡ schema
end_tables clients schema tables Creating waits = sym waits
end_tables clients schema tables Running waits = sym waits

pub walked_read : (clients : ℕ) (bytes : List ℕ) (schema : List Table) (number : ℕ) (rest : List (List ℕ)) (events : List EventLine) → Walked clients bytes schema number rest events → rest ≡ []
    → IsRead clients bytes (record { schema = schema; lines = events })
walked_read clients bytes schema number rest events walked done = record {
  events = walked.before;
  end = phase_of walked.tables walked.stage;
  are = walked.are;
  reads = let nothing : Reads clients number (phase_of walked.tables walked.stage) rest [] (phase_of walked.tables walked.stage) =
      subst (λ z. Reads clients number (phase_of walked.tables walked.stage) z [] (phase_of walked.tables walked.stage)) (sym done) (refl, refl) in
      subst (λ z. Reads clients 1 start_phase (lines_of bytes) z (phase_of walked.tables walked.stage)) (append-nil walked.before) (walked.reads [] (phase_of walked.tables walked.stage) nothing);
  tables = end_tables clients schema walked.tables walked.stage (subst (Waits clients schema walked.tables walked.stage) done walked.waits);
  few = let few = walked.few in let most = few_lines bytes in omega (arith, few, most);
}
