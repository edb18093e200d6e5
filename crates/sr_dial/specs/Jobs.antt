-- What a plan hands out.
use Rattle.std.specs.Prelude.{ℕ, List, ◌≡◌, Option, Some, None, string_bytes}
use Rattle.sr_cell.specs.declared.table.Table.{Table}
use Rattle.sr_plan.specs.Plans.{Plan, Over, Next, plan_of}
use Rattle.sr_reader.specs.declared.script.EventLine.{EventLine}
use Rattle.sr_dial.specs.Calls.{Task, Say}
use Rattle.sr_dial.specs.Following.{Ahead, ahead_of}
use Rattle.sr_dial.specs.Known.{AreTasks, IsTask}
use Rattle.sr_dial.specs.declared.parts.Answer.{Answer}
use Rattle.sr_dial.specs.declared.plans.Job.{Job}
use Rattle.sr_dial.specs.declared.plans.Job.TheVariants as job

-- the number of its line
abbrev pub number_of : Job → ℕ
number_of (job.Line line) = line.number
number_of (job.Say number text) = number

-- which task it is
abbrev pub IsJob : List Table → Job → Task → Type 0
IsJob schema (job.Line line) task = IsTask schema line.event task
IsJob schema (job.Say number text) task = task ≡ Say (string_bytes text)

-- It is the next task of a plan, and whoever hands it out goes on with what follows.
pub record GivesNext {S : Type 0} (Follows : List Table → S → Ahead → Type 0) (schema : List Table) (job : Job) (plan : Plan Task Answer)
    (new : S) : Type 0 where
  pub task : Task
  pub further : Ahead
  pub is : IsJob schema job task
  pub plan_is : plan ≡ Next (number_of job) task further
  pub follows : Follows schema new (ahead_of task further)

-- The next job of a plan; or none, where nothing is left.
abbrev pub Gives : {S : Type 0} → (List Table → S → Ahead → Type 0) → List Table → Option Job → Plan Task Answer → S → Type 0
Gives {S} Follows schema None plan new = plan ≡ Over
Gives {S} Follows schema (Some job) plan new = GivesNext Follows schema job plan new

-- The lines of a script ask for just this, whatever the answers are.
pub record AreAhead (schema : List Table) (lines : List EventLine) (ahead : Ahead) : Type 0 where
  pub tasks : List (ℕ × Task)
  pub are : AreTasks schema lines tasks
  pub ahead_is : (answer : Option Answer) → ahead answer ≡ plan_of tasks
