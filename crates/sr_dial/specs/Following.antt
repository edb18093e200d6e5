-- What was done, as a plan sees it.
use Rattle.std.specs.Prelude.{ℕ, Bool, true, List, map, Option, Some, None}
use Rattle.sr_session.specs.Rules.{Outcome, Answered}
use Rattle.sr_links.specs.Steps.{Deed}
use Rattle.sr_plan.specs.Plans.{Plan, Did, Began, WentOn, Passed, Stage, begun, stage_after}
use Rattle.sr_dial.specs.Calls.{Cause, Scripted, Done, Made, Explained, Said, Task, Do, Explain, Say}
use Rattle.sr_dial.specs.declared.parts.Answer.{Answer}

-- What follows from each answer of the last task.
abbrev pub Ahead : Type 0
Ahead = Option Answer → Plan Task Answer

-- The answer of a step, where answers are kept: the version, and the rows of the query.
abbrev pub answer_of : Bool → Outcome → Option Answer
answer_of true (Answered query version rows marks) = Some (record { version = version; rows = rows })
answer_of keeps other = None

-- A step that a line asked for begins its task; others go on with it.
abbrev pub did_by : Cause → ℕ → Deed → Option Answer → Did Task Answer
did_by Scripted number deed answer = Began (number, Do deed) answer
did_by other number deed answer = WentOn answer

-- To explain, and to write a text, has no answer.
abbrev pub did_of : {C : Type 0} → Bool → Done C → Did Task Answer
did_of {C} keeps (Made number cause step) = did_by cause number step.deed (answer_of keeps step.outcome)
did_of {C} keeps (Explained number text result) = Passed (number, Explain text)
did_of {C} keeps (Said number text) = Passed (number, Say text)

abbrev pub dids_of : {C : Type 0} → Bool → List (Done C) → List (Did Task Answer)
dids_of {C} keeps ds = map (did_of keeps) ds

-- how far a plan has come by what was done
abbrev pub stage_by : {C : Type 0} → Bool → Plan Task Answer → List (Done C) → Stage Task Answer
stage_by {C} keeps plan ds = stage_after (begun plan) (dids_of keeps ds)

-- What follows a task: behind one that has no answer, what follows from none.
abbrev pub ahead_of : Task → Ahead → Ahead
ahead_of (Do deed) further = further
ahead_of other further = λ answer. further None
