-- What the answer of a task is.
use Rattle.std.specs.Prelude.{ℕ, Bool, ◌≤◌, ◌≡◌, List, Ok, Err}
use Rattle.sr_cell.specs.declared.table.Table.{Table}
use Rattle.sr_model.specs.Queries.{Query, rows_of}
use Rattle.sr_policy.specs.declared.policy.Limits.{Limits}
use Rattle.sr_session.specs.Clients.{Client}
use Rattle.sr_session.specs.Sessions.{Database, newest, tables_of}
use Rattle.sr_links.specs.Answers.{AreTrueSteps}
use Rattle.sr_links.specs.Steps.{Queried}
use Rattle.sr_plan.specs.Plans.{AreAnswered}
use Rattle.sr_dial.specs.Calls.{Done, Task, Do, steps_in}
use Rattle.sr_dial.specs.Following.{dids_of}
use Rattle.sr_dial.specs.Runs.{AreInPlace}
use Rattle.sr_dial.specs.declared.parts.Answer.{Answer}

-- the answer has the rows of the query, on the tables of the version that it names
abbrev pub IsOf : Database → Query → Answer → Type 0
IsOf db q answer = (answer.version ≤ newest db) × (answer.rows ≡ rows_of q (tables_of db answer.version))

-- The answer of a query is of it. A text that is refused has no answer, and of other tasks nothing is said.
abbrev pub IsTold : Database → Task → Answer → Type 0
IsTold db (Do (Queried (Ok q))) answer = IsOf db q answer
IsTold db (Do (Queried (Err fault))) answer = ⊥
IsTold db other answer = Unit {0}

-- Where each thing is in its place and each step is true, each answer is that of the task that was begun last.
abbrev pub TrueStepsAnswer : Type 0 → Type 0
TrueStepsAnswer C = (keeps : Bool) (db : Database) (limits : Limits) (tables : List Table) (line : ℕ) (c : Client) (ds : List (Done C))
    → AreInPlace tables line c ds → AreTrueSteps db limits c (steps_in ds) → AreAnswered (IsTold db) (λ answer. Unit {0}) (dids_of keeps ds)
