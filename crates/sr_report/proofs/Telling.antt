-- What a report writes over true steps.
use Rattle.std.proofs.Common.{inl, inr, ◌≡◌, ℕ, suc, ◌+◌, ◌<◌, List, [], ◌∷◌, refl, sym, ◌∙◌, subst, arith}
use Rattle.std.specs.Prelude.{Option, Some, None, Ok, IfSome}
use Rattle.std.specs.List.{AllZip, Contains}
use Rattle.sr_cell.specs.Cells.{Row}
use Rattle.sr_cell.specs.declared.table.Table.{Table}
use Rattle.sr_lines.specs.Events.{ScriptEvent, DoExec, DoQuery, DoWrite, DoExplain, DoPush, DoToServer, DoToClient, DoSettle, DoEvict, DoCut, DoResume}
use Rattle.sr_lines.specs.Lines.{lines_of}
use Rattle.sr_model.specs.Queries.{Query}
use Rattle.sr_session.specs.Sessions.{Database, tables_of}
use Rattle.sr_links.specs.Steps.{Queried}
use Rattle.sr_plan.specs.Plans.{Plan, AllTasksIf}
use Rattle.sr_setup.specs.ReportFiles.{Saying, Event, Aggregate, sayings}
use Rattle.sr_dial.specs.Calls.{Task, Do}
use Rattle.sr_dial.specs.declared.parts.Answer.{Answer}
use Rattle.sr_answers.specs.Answers.{IsTold}
use Rattle.sr_answers.specs.Texts.{SaysSuch}
use Rattle.sr_answers.proofs.Answered.{some-is}
use Rattle.sr_answers.proofs.Saying.{such-are-said}
use Rattle.sr_agg.specs.Groups.{aggregates}
use Rattle.sr_agg.specs.Laws.{Tells}
use Rattle.sr_agg.specs.Starting.{Plan as Telling}
use Rattle.sr_agg.proofs.Lawful.{plans-tell}
use Rattle.sr_report.specs.Laws.{HasAggregate, IsRightText, ReportsAreRight}
use Rattle.sr_report.specs.Plans.{Entry, Asks, Refused, Tells as EntryTells, task_of, ComesTo, LineComesTo, report_plan, plan_behind, telling_of}

-- ---- members

contains-first : {A : Type 0} (x : A) (xs : List A) → Contains (x ∷ xs) x
contains-first x xs = (0, omega arith, refl)

contains-later : {A : Type 0} (x y : A) (xs : List A) → Contains xs y → Contains (x ∷ xs) y
contains-later x y xs has = (suc has.0, let h = has.1 in omega (arith, h), has.2)

-- ---- the tasks of a plan

module _ (tables : List Table) (db : Database) (id : ℕ) (script : List ℕ) where
  abbrev IsRightTask : Task → Type 0
  IsRightTask task = SaysSuch (IsRightText tables db id script) task

  abbrev IsRightPlan : Plan Task Answer → Type 0
  IsRightPlan plan = AllTasksIf (IsTold db) IsRightTask plan

  right-task : (event : ScriptEvent) (task : Task) → task_of event ≡ Some task → IsRightTask task
  right-task (DoQuery n query) task is = subst IsRightTask (some-is is) tt
  right-task (DoWrite n sql) task is = subst IsRightTask (some-is is) tt
  right-task (DoExplain n query) task is = subst IsRightTask (some-is is) tt
  right-task (DoEvict n place) task is = subst IsRightTask (some-is is) tt
  right-task (DoCut n) task is = subst IsRightTask (some-is is) tt
  right-task (DoResume n) task is = subst IsRightTask (some-is is) tt
  right-task other task is = absurd cc

  right-telling : (number : ℕ) (sql : List ℕ) (query : Query) (telling : Telling) (rest : Plan Task Answer) → HasAggregate script number sql → ComesTo tables (Aggregate sql) (EntryTells query telling) → IsRightPlan rest
      → (answer : Option Answer) → IfSome answer (IsTold db (Do (Queried (Ok query)))) → IsRightPlan (telling_of id number telling rest answer)
  right-telling number sql query telling rest line comes all None good = all
  right-telling number sql query telling rest line comes all (Some answer) good =
      let told : Tells tables sql (tables_of db answer.version) (aggregates telling.groups telling.items answer.rows) =
      subst (λ (z : List Row). Tells tables sql (tables_of db answer.version) (aggregates telling.groups telling.items z)) (sym good.1)
      (plans-tell tables sql telling comes.1.0 query (tables_of db answer.version) comes.0 comes.1.1 comes.1.2) in (
        inr (record {
          number = number;
          sql = sql;
          version = answer.version;
          groups = aggregates telling.groups telling.items answer.rows;
          line = line;
          within = good.0;
          tells = told;
          text_is = refl;
        }),
        λ _ _. all,
      )

  right-entry : (number : ℕ) (saying : Saying) (entry : Entry) (rest : Plan Task Answer) → Contains (sayings 1 (lines_of script)) (number, saying) → ComesTo tables saying entry → IsRightPlan rest → IsRightPlan (plan_behind id number entry rest)
  right-entry number (Event words) (Asks task) rest line comes all = (right-task comes.0 task comes.2, λ _ _. all)
  right-entry number (Event words) (Refused fault) rest line comes all = absurd comes
  right-entry number (Event words) (EntryTells query telling) rest line comes all = absurd comes
  right-entry number (Aggregate sql) (Asks task) rest line comes all = absurd comes
  right-entry number (Aggregate sql) (Refused fault) rest line comes all =
      (inl (record { number = number; sql = sql; fault = fault; line = line; refused = comes; text_is = refl }), λ _ _. all)
  right-entry number (Aggregate sql) (EntryTells query telling) rest line comes all = (tt, right-telling number sql query telling rest line comes all)

  right-plan : (said : List (ℕ × Saying)) (entries : List (ℕ × Entry)) → AllZip (LineComesTo tables) said entries → ((s : ℕ × Saying) → Contains said s → Contains (sayings 1 (lines_of script)) s) → IsRightPlan (report_plan id entries)
  right-plan [] [] are each = tt
  right-plan [] (entry ∷ entries) are each = absurd are
  right-plan (s ∷ said) [] are each = absurd are
  right-plan (s ∷ said) (entry ∷ entries) are each =
      let line : Contains (sayings 1 (lines_of script)) (entry.0, s.1) = subst (λ (n : ℕ). Contains (sayings 1 (lines_of script)) (n, s.1)) (sym are.0.0) (each s (contains-first s said)) in
      right-entry entry.0 s.1 entry.1 (report_plan id entries) line are.0.1 (right-plan said entries are.1 (λ t has. each t (contains-later s t said has)))

pub reports-are-right : {C : Type 0} → ReportsAreRight C
reports-are-right {C} keeps db limits c ds id schema script tables ahead asks here goes truly =
    let each : (answer : Option Answer) → AllTasksIf (IsTold db) (SaysSuch (IsRightText tables db id script)) (ahead answer) = λ answer. subst (IsRightPlan tables db id script) (sym (asks.ahead_is answer))
    (right-plan tables db id script (sayings 1 (lines_of script)) asks.entries asks.are (λ s has. has)) in
    such-are-said (IsRightText tables db id script) keeps db limits tables c ds ahead each here goes truly
