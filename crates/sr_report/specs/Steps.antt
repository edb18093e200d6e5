-- The steps of a report in the code.
use Rattle.std.specs.Prelude.{◌≡◌, ℕ, ◌+◌, ◌*◌, List, length, Option, Some, None, Ok, string_bytes}
use Rattle.std.specs.List.{AllZip}
use Rattle.std.specs.Vec.Iter.{into_iter_items}
use Rattle.sr_cell.specs.declared.table.Table.{Table}
use Rattle.sr_links.specs.Steps.{Queried}
use Rattle.sr_plan.specs.Plans.{Plan}
use Rattle.sr_dial.specs.Calls.{Task, Do}
use Rattle.sr_dial.specs.Following.{Ahead}
use Rattle.sr_dial.specs.Known.{IsTask}
use Rattle.sr_dial.specs.declared.parts.Answer.{Answer}
use Rattle.sr_dial.specs.declared.plans.Job.{Job}
use Rattle.sr_dial.specs.declared.plans.Job.TheVariants as job
use Rattle.sr_agg.specs.Groups.{aggregates}
use Rattle.sr_report.specs.declared.report.Asked.{Asked}
use Rattle.sr_report.specs.declared.report.Report.{Report}
use Rattle.sr_report.specs.declared.report.Step.{Step}
use Rattle.sr_report.specs.declared.report.Step.TheVariants as step
use Rattle.sr_report.specs.Plans.{Entry, Asks, Refused, Tells, report_plan, telling_of}
use Rattle.sr_report.specs.Texts.{refused_text, groups_text}

-- the step of a line that comes to this
abbrev pub IsStepOf : List Table → ℕ → Step → ℕ → Entry → Type 0
IsStepOf tables id (step.Line line) number (Asks task) = (line.number ≡ number) × IsTask tables line.event task
IsStepOf tables id (step.Say n text) number (Refused fault) = (n ≡ number) × (string_bytes text ≡ refused_text id number fault)
IsStepOf tables id (step.Tell line agg) number (Tells query telling) =
    (line.number ≡ number) × IsTask tables line.event (Do (Queried (Ok query))) × (agg ≡ telling)
IsStepOf tables id step number entry = ⊥

abbrev pub IsStep : List Table → ℕ → Step → ℕ × Entry → Type 0
IsStep tables id step entry = IsStepOf tables id step entry.0 entry.1

-- what is ahead behind the job that was handed out last
abbrev pub ahead_behind : ℕ → Option Asked → Plan Task Answer → Ahead
ahead_behind id None rest answer = rest
ahead_behind id (Some asked) rest answer = telling_of id asked.number asked.agg rest answer

-- This is left of it, where no answer is awaited.
pub record IsLeft (tables : List Table) (report : Report) (plan : Plan Task Answer) : Type 0 where
  pub entries : List (ℕ × Entry)
  pub are : AllZip (IsStep tables report.id) (into_iter_items report.steps) entries
  pub plan_is : plan ≡ report_plan report.id entries

-- This is ahead of a report, over tables of this schema.
pub record Follows (tables : List Table) (report : Report) (ahead : Ahead) : Type 0 where
  pub entries : List (ℕ × Entry)
  pub are : AllZip (IsStep tables report.id) (into_iter_items report.steps) entries
  pub ahead_is : (answer : Option Answer) → ahead answer ≡ ahead_behind report.id report.asked (report_plan report.id entries) answer

abbrev pub one_if_asked : Option Asked → ℕ
one_if_asked None = 0
one_if_asked (Some asked) = 1

-- How many jobs it may still hand out: two at most for a line.
abbrev pub jobs_left : Report → ℕ
jobs_left report = 2 * length (into_iter_items report.steps) + one_if_asked report.asked

-- what is told of the groups of an answer
abbrev pub told_by : ℕ → Asked → Answer → List ℕ
told_by id asked answer = groups_text id asked.number answer.version (aggregates asked.agg.groups asked.agg.items answer.rows)

-- the job is to write this text for that line
abbrev pub IsSaying : Job → ℕ → List ℕ → Type 0
IsSaying (job.Say n text) number bytes = (n ≡ number) × (string_bytes text ≡ bytes)
IsSaying (job.Line line) number bytes = ⊥
