-- What the tasks of a report are.
use Rattle.std.proofs.Common.{◌≡◌, ℕ, List, [], ◌∷◌, refl, sym, ◌∙◌, ap, subst}
use Rattle.std.specs.Prelude.{Option, Some, None, Result, Ok, Err}
use Rattle.std.specs.List.{AllZip}
use Rattle.sr_cell.specs.declared.fault.Fault.{Fault}
use Rattle.sr_cell.specs.declared.table.Table.{Table}
use Rattle.sr_lines.specs.Events.{ScriptEvent, DoExec, DoQuery, DoWrite, DoExplain, DoPush, DoToServer, DoToClient, DoSettle, DoEvict, DoCut, DoResume}
use Rattle.sr_lines.specs.Lines.{lines_of}
use Rattle.sr_lines.specs.Script.{AsksOf, Means, Words, ExecSql, QuerySql, WriteSql, ExplainSql, PushTo, ToServer, ToClient, Settle, Evict, Cut, Resume}
use Rattle.sr_lines.proofs.Joined.{bound_have_few_parts}
use Rattle.sr_links.specs.Steps.{Queried}
use Rattle.sr_model.specs.Queries.{Query}
use Rattle.sr_plan.specs.Plans.{Plan, AllTasks}
use Rattle.sr_setup.specs.ReportFiles.{Saying, Event, Aggregate, sayings}
use Rattle.sr_dial.specs.Calls.{Task, Do, Say}
use Rattle.sr_dial_laws.specs.Honest.{AsksFew, IsAskedFor}
use Rattle.sr_dial.specs.declared.parts.Answer.{Answer}
use Rattle.sr_answers.proofs.Answered.{some-is}
use Rattle.sr_agg.specs.Starting.{Plan as Telling}
use Rattle.sr_report.specs.Plans.{Entry, Asks, Refused, Tells, task_of, ComesTo, LineComesTo, AsksReport, report_plan, plan_behind, telling_of}
use Rattle.sr_report.specs.Laws.{ReportsAsk, ReportsAskFew}

-- It is so of each task that a report may have.
record IsOfEach (tables : List Table) (P : Task → Type 0) : Type 0 where
  pub events : (words : Words) (event : ScriptEvent) (task : Task) → Means tables words event → task_of event ≡ Some task → P task
  pub asks : (sql : List ℕ) (query : Query) → AsksOf tables sql (Ok query) → P (Do (Queried (Ok query)))
  pub says : (text : List ℕ) → P (Say text)

module _ (id : ℕ) (tables : List Table) (P : Task → Type 0) (each : IsOfEach tables P) where
  telling-all : (number : ℕ) (telling : Telling) (rest : Plan Task Answer) → AllTasks P rest → (answer : Option Answer) → AllTasks P (telling_of id number telling rest answer)
  telling-all number telling rest all None = all
  telling-all number telling rest all (Some answer) = (each.says _, λ _. all)

  entry-all : (number : ℕ) (saying : Saying) (entry : Entry) (rest : Plan Task Answer) → ComesTo tables saying entry → AllTasks P rest → AllTasks P (plan_behind id number entry rest)
  entry-all number (Event words) (Asks task) rest comes all = (each.events words comes.0 task comes.1 comes.2, λ _. all)
  entry-all number (Event words) (Refused fault) rest comes all = absurd comes
  entry-all number (Event words) (Tells query telling) rest comes all = absurd comes
  entry-all number (Aggregate sql) (Asks task) rest comes all = absurd comes
  entry-all number (Aggregate sql) (Refused fault) rest comes all = (each.says _, λ _. all)
  entry-all number (Aggregate sql) (Tells query telling) rest comes all = (each.asks telling.inner query comes.1, telling-all number telling rest all)

  plan-all : (said : List (ℕ × Saying)) (entries : List (ℕ × Entry)) → AllZip (LineComesTo tables) said entries → AllTasks P (report_plan id entries)
  plan-all [] [] are = tt
  plan-all [] (entry ∷ entries) are = absurd are
  plan-all (saying ∷ said) [] are = absurd are
  plan-all (saying ∷ said) (entry ∷ entries) are = entry-all entry.0 saying.1 entry.1 (report_plan id entries) are.0.1 (plan-all said entries are.1)

-- ---- none is to take a message

asked-for : (event : ScriptEvent) (task : Task) → task_of event ≡ Some task → IsAskedFor task
asked-for (DoQuery n query) task is = subst IsAskedFor (some-is is) tt
asked-for (DoWrite n sql) task is = subst IsAskedFor (some-is is) tt
asked-for (DoExplain n query) task is = subst IsAskedFor (some-is is) tt
asked-for (DoEvict n place) task is = subst IsAskedFor (some-is is) tt
asked-for (DoCut n) task is = subst IsAskedFor (some-is is) tt
asked-for (DoResume n) task is = subst IsAskedFor (some-is is) tt
asked-for other task is = absurd cc

pub reports-ask : ReportsAsk
reports-ask id schema script tables ahead asks =
    subst (AllTasks IsAskedFor) (sym (asks.ahead_is None))
    (plan-all id tables IsAskedFor (record { events = λ words event task means is. asked-for event task is; asks = λ sql query is. tt; says = λ text. tt }) (sayings 1 (lines_of script)) asks.entries asks.are)

-- ---- each asks at most four parts

asks-few : (tables : List Table) (sql : List ℕ) (query : Result Query Fault) → AsksOf tables sql query → AsksFew (Do (Queried query))
asks-few tables sql (Ok query) (s, says, bound) = bound_have_few_parts tables s query bound
asks-few tables sql (Err fault) is = tt

none-is : (event event_is : ScriptEvent) (task : Task) → event ≡ event_is → task_of event_is ≡ None → task_of event ≡ Some task → ⊥
none-is event event_is task is none some = absurd (let wrong : None ≡ Some task = sym none ∙ (ap task_of (sym is) ∙ some) in cc)

event-few : (tables : List Table) (words : Words) (event : ScriptEvent) (task : Task) → Means tables words event → task_of event ≡ Some task → AsksFew task
event-few tables (QuerySql n sql) event task (query, asks, is) some = subst AsksFew (some-is (ap task_of (sym is) ∙ some)) (asks-few tables sql query asks)
event-few tables (WriteSql n sql) event task is some = subst AsksFew (some-is (ap task_of (sym is) ∙ some)) tt
event-few tables (ExplainSql n sql) event task (query, asks, is) some = subst AsksFew (some-is (ap task_of (sym is) ∙ some)) tt
event-few tables (Evict n place) event task is some = subst AsksFew (some-is (ap task_of (sym is) ∙ some)) tt
event-few tables (Cut n) event task is some = subst AsksFew (some-is (ap task_of (sym is) ∙ some)) tt
event-few tables (Resume n) event task is some = subst AsksFew (some-is (ap task_of (sym is) ∙ some)) tt
event-few tables (ExecSql sql) event task (statement, writes, is) some = absurd (none-is event (DoExec statement) task is refl some)
event-few tables (PushTo n) event task is some = absurd (none-is event (DoPush n) task is refl some)
event-few tables (ToServer n) event task is some = absurd (none-is event (DoToServer n) task is refl some)
event-few tables (ToClient n) event task is some = absurd (none-is event (DoToClient n) task is refl some)
event-few tables (Settle n) event task is some = absurd (none-is event (DoSettle n) task is refl some)

pub reports-ask-few : ReportsAskFew
reports-ask-few id schema script tables ahead asks =
    subst (AllTasks AsksFew) (sym (asks.ahead_is None))
    (plan-all id tables AsksFew (record { events = event-few tables; asks = λ sql query is. asks-few tables sql (Ok query) is; says = λ text. tt }) (sayings 1 (lines_of script)) asks.entries asks.are)
