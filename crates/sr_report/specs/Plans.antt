-- What a report does.
use Rattle.std.specs.Prelude.{◌≡◌, ℕ, List, [], ◌∷◌, Option, Some, None, Result, Ok, Err}
use Rattle.std.specs.List.{AllZip}
use Rattle.sr_cell.specs.declared.fault.Fault.{Fault}
use Rattle.sr_cell.specs.declared.table.Table.{Table}
use Rattle.sr_cell.specs.Clients.{most_clients}
use Rattle.sr_model.specs.Queries.{Query}
use Rattle.sr_lines.specs.Creates.{Creates}
use Rattle.sr_lines.specs.Events.{ScriptEvent, DoQuery, DoWrite, DoExplain, DoEvict, DoCut, DoResume}
use Rattle.sr_lines.specs.Lines.{lines_of}
use Rattle.sr_lines.specs.Script.{AsksOf, FirstRefused, Means}
use Rattle.sr_setup.specs.ReportFiles.{Saying, Event, Aggregate, sayings, report_outside}
use Rattle.sr_links.specs.Steps.{Queried, Wrote, Evicted, WasCut, Resumed}
use Rattle.sr_plan.specs.Plans.{Plan, Over, Next}
use Rattle.sr_dial.specs.Calls.{Task, Do, Explain, Say}
use Rattle.sr_dial.specs.Following.{Ahead}
use Rattle.sr_dial.specs.declared.parts.Answer.{Answer}
use Rattle.sr_agg.specs.declared.agg.AggFault.{AggFault}
use Rattle.sr_agg.specs.Groups.{aggregates}
use Rattle.sr_agg.specs.Starting.{Starts}
use Rattle.sr_agg.specs.Starting.{Plan as Telling}
use Rattle.sr_report.specs.Texts.{refused_text, groups_text}

-- ---- what the lines of a script come to

-- what a line comes to: what an event asks of the client; a text that begins no aggregate; or a query, and what is told of its rows
pub data Entry : Type 0 where
  Asks : (task : Task) → Entry
  Refused : (fault : AggFault) → Entry
  Tells : (query : Query) (telling : Telling) → Entry

-- what an event of a script asks of its client; statements, pushes and deliveries ask nothing of it
abbrev pub task_of : ScriptEvent → Option Task
task_of (DoQuery n query) = Some (Do (Queried query))
task_of (DoWrite n sql) = Some (Do (Wrote sql))
task_of (DoExplain n query) = Some (Explain query)
task_of (DoEvict n place) = Some (Do (Evicted place))
task_of (DoCut n) = Some (Do WasCut)
task_of (DoResume n) = Some (Do Resumed)
task_of other = None

-- Over the tables it comes to this. An aggregate that begins comes to the query that its inner text asks.
abbrev pub ComesTo : List Table → Saying → Entry → Type 0
ComesTo tables (Event words) (Asks task) = (event : ScriptEvent) × Means tables words event × (task_of event ≡ Some task)
ComesTo tables (Aggregate sql) (Refused fault) = Starts tables sql (Err fault)
ComesTo tables (Aggregate sql) (Tells query telling) = Starts tables sql (Ok telling) × AsksOf tables telling.inner (Ok query)
ComesTo tables saying entry = ⊥

abbrev pub LineComesTo : List Table → ℕ × Saying → ℕ × Entry → Type 0
LineComesTo tables numbered entry = (entry.0 ≡ numbered.0) × ComesTo tables numbered.1 entry.1

-- The lines of the script come to this, in order, each with its number.
abbrev pub AreEntries : List Table → List ℕ → List (ℕ × Entry) → Type 0
AreEntries tables script entries = AllZip (LineComesTo tables) (sayings 1 (lines_of script)) entries

-- ---- the plan

-- Behind the query of an aggregate: where it was answered its groups are told, and then the rest follows.
abbrev pub telling_of : ℕ → ℕ → Telling → Plan Task Answer → Ahead
telling_of id number telling rest None = rest
telling_of id number telling rest (Some answer) =
    Next number (Say (groups_text id number answer.version (aggregates telling.groups telling.items answer.rows))) (λ _. rest)

abbrev pub plan_behind : ℕ → ℕ → Entry → Plan Task Answer → Plan Task Answer
plan_behind id number (Asks task) rest = Next number task (λ _. rest)
plan_behind id number (Refused fault) rest = Next number (Say (refused_text id number fault)) (λ _. rest)
plan_behind id number (Tells query telling) rest = Next number (Do (Queried (Ok query))) (telling_of id number telling rest)

-- what a report does by the client of that number, line by line
abbrev pub report_plan : ℕ → List (ℕ × Entry) → Plan Task Answer
report_plan id [] = Over
report_plan id (entry ∷ entries) = plan_behind id entry.0 entry.1 (report_plan id entries)

-- ---- the files of a report

-- No line of the files is outside the grammar, the CREATE lines make the tables, none is refused, and this is ahead: what the lines of the
-- script come to, whatever was answered before.
pub record AsksReport (id : ℕ) (schema script : List ℕ) (tables : List Table) (ahead : Ahead) : Type 0 where
  pub inside : report_outside id schema script ≡ None
  pub created : Creates most_clients [] (lines_of schema) tables
  pub accepts : (n : ℕ) (fault : Fault) → ¬ FirstRefused most_clients 1 [] (lines_of schema) n fault
  pub entries : List (ℕ × Entry)
  pub are : AreEntries tables script entries
  pub ahead_is : (answer : Option Answer) → ahead answer ≡ report_plan id entries
