-- What the files of a client ask for, by its kind.
use Rattle.std.specs.Prelude.{◌≡◌, ℕ, Bool, true, false, List, Option, Some}
use Rattle.std.specs.List.{AllZip}
use Rattle.sr_cell.specs.declared.table.Table.{Table}
use Rattle.sr_dial.specs.Calls.{Task}
use Rattle.sr_dial.specs.Following.{Ahead}
use Rattle.sr_dial.specs.Known.{AreTasks}
use Rattle.sr_lines.specs.Events.{ScriptEvent}
use Rattle.sr_plan.specs.Plans.{plan_of}
use Rattle.sr_reader.specs.declared.script.EventLine.{EventLine}
use Rattle.sr_keyset.specs.SetUp.{AsksKeySets}
use Rattle.sr_report.specs.Plans.{AsksReport, task_of}
use Rattle.sr_setup.specs.ClientFiles.{IsAsked, client_fault}
use Rattle.sr_setup.specs.ReportFiles.{report_fault}
use Rattle.sr_words.specs.declared.command.ClientKind.{ClientKind}
use Rattle.sr_words.specs.declared.command.ClientKind.TheVariants as kind
use Rattle.sr_words.specs.declared.command.ClientWords.{ClientWords}

-- ---- the lines of a script

-- the fault of a line of the script of a client of this kind and number, if it has one
abbrev pub line_fault : ClientKind → ℕ → List ℕ → Option ℕ
line_fault kind.Client id = client_fault id
line_fault kind.Report id = report_fault id
line_fault kind.Semi id = client_fault id

abbrev pub fault_by : ClientWords → List ℕ → Option ℕ
fault_by words = line_fault words.kind words.id

-- ---- the plan

-- What an event of a script asks of its client, with the number of its line.
abbrev pub IsTaskOf : ℕ × ScriptEvent → ℕ × Task → Type 0
IsTaskOf event numbered = (task : Task) × (task_of event.1 ≡ Some task) × (numbered ≡ (event.0, task))

-- Files are judged and read, and this is ahead of their client behind its first resume: the tasks of the script's events, in order, whatever
-- is answered.
pub record AsksLines (id : ℕ) (schema script : List ℕ) (tables : List Table) (ahead : Ahead) : Type 0 where
  pub lines : List EventLine
  pub tasks : List (ℕ × Task)
  pub asked : IsAsked id schema script tables lines
  pub are : AreTasks tables lines tasks
  pub follow : AllZip IsTaskOf asked.asked.events tasks
  pub ahead_is : ahead ≡ (λ answer. plan_of tasks)

-- By the kind: that; or the same where lines of aggregates are answered from the rows of a query; or where joins are run by key sets.
abbrev pub AsksFor : ClientKind → ℕ → List ℕ → List ℕ → List Table → Ahead → Type 0
AsksFor kind.Client id schema script tables ahead = AsksLines id schema script tables ahead
AsksFor kind.Report id schema script tables ahead = AsksReport id schema script tables ahead
AsksFor kind.Semi id schema script tables ahead = AsksKeySets id schema script tables ahead

-- whether the plan looks at answers, so that the rows of each are kept
abbrev pub keeps_of : ClientKind → Bool
keeps_of kind.Client = false
keeps_of kind.Report = true
keeps_of kind.Semi = true
