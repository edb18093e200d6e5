-- What a run of `client` did.
use Rattle.std.specs.Prelude.{ℕ, Bool, true, false, nat_lt, ◌&&◌, ◌||◌, not, ◌+◌, List, [], ◌∷◌, ◌++◌, length, flat_map, ◌≡◌, Option, Some, None, Result, option_to_list}
use Rattle.std.specs.List.{list_any}
use Rattle.sr_cell.specs.declared.fault.Fault.{Fault}
use Rattle.sr_cell.specs.declared.table.Table.{Table}
use Rattle.sr_io.specs.Told.{Connection}
use Rattle.sr_model.specs.Queries.{Query}
use Rattle.sr_script.specs.declared.line.TraceLine.{TraceLine}
use Rattle.sr_script.specs.declared.line.TraceLine.TheVariants as line
use Rattle.sr_script.specs.TraceText.{line_text}
use Rattle.sr_wire.specs.declared.wire_fault.WireFault.TheVariants.{Short}
use Rattle.sr_wire.specs.Reading.{Decoded, Faulty, decoded}
use Rattle.sr_session.specs.Clients.{Client}
use Rattle.sr_session.specs.Rules.{Outcome, QueryRefused}
use Rattle.sr_explain.specs.declared.explanation.Explanation.{Explanation}
use Rattle.sr_explain.specs.Telling.{explain_lines}
use Rattle.sr_runs.specs.Lines.{details, query_line, write_line, evict_line, taken_line, cut_line, resume_line}
use Rattle.sr_links.specs.Honest.{Talk}
use Rattle.sr_links.specs.Steps.{Step, Deed, Queried, Wrote, Evicted, Took, WasCut, Resumed, OnOne, past_after}

-- why a step was made: a line of the script asked for it, as for the first resume, which has number 0; a frame came; or the link failed,
-- or the connection ended while a request was out
pub data Cause : Type 0 where
  Scripted : Cause
  Delivered : Cause
  Failed : Cause

-- What was done, with the number of the script's line: a step; or the client explained how it would answer a query, which is no step. Of
-- that there is what the query's text means, and what was explained, or why the text is refused. Or a text was written, which is none.
pub data Done (C : Type 0) : Type 0 where
  Made : (number : ℕ) (cause : Cause) (step : Step C) → Done C
  Explained : (number : ℕ) (text : Result Query Fault) (result : Result Explanation Fault) → Done C
  Said : (number : ℕ) (text : List ℕ) → Done C

-- the number of the line
abbrev pub number_of : {C : Type 0} → Done C → ℕ
number_of {C} (Made number cause step) = number
number_of {C} (Explained number text result) = number
number_of {C} (Said number text) = number

-- ---- its lines

-- A write whose text is too long is refused without an event.
abbrev pub last_lines : ℕ → Deed → Outcome → List TraceLine
last_lines client (Queried query) o = query_line client o
last_lines client (Wrote sql) (QueryRefused fault) = line.WriteSql client fault ∷ []
last_lines client (Wrote sql) o = write_line client o
last_lines client (Evicted place) o = evict_line client o
last_lines client (Took m) o = taken_line client o
last_lines client WasCut o = cut_line client o
last_lines client Resumed o = resume_line client o

-- the details of an outcome, and then one last line
abbrev pub lines_of : ℕ → Deed → Outcome → List TraceLine
lines_of client deed o = details client o ++ last_lines client deed o

abbrev pub text_of : {C : Type 0} → List Table → ℕ → Done C → List ℕ
text_of {C} schema client (Made number cause step) = flat_map (line_text schema number) (lines_of client step.deed step.outcome)
text_of {C} schema client (Explained number text result) = flat_map (line_text schema number) (explain_lines client result)
text_of {C} schema client (Said number text) = text

-- ---- the script's lines

-- what a line asks for: a deed of a client; how it would answer a query of this text; or that a text is written
pub data Task : Type 0 where
  Do : (deed : Deed) → Task
  Explain : (text : Result Query Fault) → Task
  Say : (text : List ℕ) → Task

-- ---- its connections

abbrev pub steps_in : {C : Type 0} → List (Done C) → List (Step C)
steps_in {C} [] = []
steps_in {C} (Made number cause step ∷ ds) = step ∷ steps_in ds
steps_in {C} (Explained number text result ∷ ds) = steps_in ds
steps_in {C} (Said number text ∷ ds) = steps_in ds

-- What was done from one resume, which the line of that number asked for, to the next; whether a connection was made, whether sending over
-- it failed, and the connection, where the link tells it; and the bytes that were taken from it and belong to no message that was handed on.
pub record Call (C : Type 0) : Type 0 where
  pub number : ℕ
  pub first : Step C
  pub others : List (Done C)
  pub connected : Bool
  pub torn : Bool
  pub told : Option Connection
  pub left : List ℕ

abbrev pub done_in : {C : Type 0} → Call C → List (Done C)
done_in {C} call = Made call.number Scripted call.first ∷ call.others

abbrev pub talk_of : {C : Type 0} → Call C → Talk C
talk_of {C} call = record { first = call.first; others = steps_in call.others }

abbrev pub all_done : {C : Type 0} → List (Call C) → List (Done C)
all_done {C} [] = []
all_done {C} (call ∷ calls) = done_in call ++ all_done calls

-- Each begins with its resume over a cut link, and what follows is over its connection.
abbrev pub AreCalls : {C : Type 0} → Client → List (Call C) → Type 0
AreCalls {C} c [] = Unit {0}
AreCalls {C} c (call ∷ calls) =
    (call.first.deed ≡ Resumed) × (c.cut ≡ true) × OnOne call.first.past (steps_in call.others) × AreCalls (past_after c (steps_in (done_in call))) calls

-- ---- failures

abbrev pub is_failed : Cause → Bool
is_failed Failed = true
is_failed other = false

abbrev pub has_failed : {C : Type 0} → Done C → Bool
has_failed {C} (Made number cause step) = is_failed cause
has_failed {C} (Explained number text result) = false
has_failed {C} (Said number text) = false

-- a failure cut it
abbrev pub fails : {C : Type 0} → Call C → Bool
fails {C} call = list_any has_failed call.others

abbrev pub is_coming : Option Connection → Bool
is_coming None = false
is_coming (Some t) = nat_lt 0 (length t.coming)

abbrev pub is_short : Decoded → Bool
is_short (Faulty Short) = true
is_short other = false

-- A fault of the link must be behind it: sending failed, or there was no connection, or more was to come, or a frame or none had come.
abbrev pub is_fault : {C : Type 0} → Call C → Bool
is_fault {C} call = call.torn || (not call.connected || (is_coming call.told || not (is_short (decoded call.left))))

abbrev pub one_if : Bool → ℕ
one_if true = 1
one_if false = 0

abbrev pub count_faults : {C : Type 0} → List (Call C) → ℕ
count_faults {C} [] = 0
count_faults {C} (call ∷ calls) = one_if (fails call && is_fault call) + count_faults calls

abbrev pub calls_told : {C : Type 0} → List (Call C) → List Connection
calls_told {C} [] = []
calls_told {C} (call ∷ calls) = option_to_list call.told ++ calls_told calls
