-- What the lines of a script come to, and the steps that are made of them.
use Rattle.std.proofs.Common.{inl, inr, ◌≡◌, ℕ, Bool, true, false, List, [], ◌∷◌, ◌++◌, map, refl, sym, ◌∙◌, ap, subst}
use Rattle.std.specs.Prelude.{Option, Some, None, Result, Ok, Err, IfOk, IsTrue}
use Rattle.std.specs.List.{AllZip}
use Rattle.sr_cell.specs.declared.fault.Fault.{Fault}
use Rattle.sr_cell.specs.declared.table.Table.{Table}
use Rattle.sr_cell.proofs.Lists.{AllZip-push}
use Rattle.sr_grammar.specs.Says.{Says}
use Rattle.sr_grammar.specs.Trees.{Statement}
use Rattle.sr_grammar_laws.proofs.OneSaying.{each_says_one}
use Rattle.sr_model.specs.Queries.{Query}
use Rattle.sr_query.specs.Binding.{bound_query}
use Rattle.sr_query.specs.declared.query.Query as code
use Rattle.sr_lines.specs.Events.{ScriptEvent}
use Rattle.sr_lines.specs.Script.{AsksOf}
use Rattle.sr_reader.specs.declared.script.Event.{Event}
use Rattle.sr_reader.specs.declared.script.Event.TheVariants as read
use Rattle.sr_reader.specs.declared.script.EventLine.{EventLine}
use Rattle.sr_reader.specs.Meaning.{IsAsking}
use Rattle.sr_reader.specs.Read.{IsEvent}
use Rattle.sr_setup.specs.ClientFiles.{is_own}
use Rattle.sr_setup.specs.ReportFiles.{Saying, Aggregate, IsReportLine}
use Rattle.sr_setup.specs.ReportFiles as said
use Rattle.sr_setup.specs.declared.report_script.ReportLine.{ReportLine}
use Rattle.sr_setup.specs.declared.report_script.ReportLine.TheVariants as line
use Rattle.sr_links.specs.Steps.{Queried, Wrote, Evicted, WasCut, Resumed}
use Rattle.sr_dial.specs.Calls.{Task, Do, Explain}
use Rattle.sr_dial.specs.Known.{IsTask}
use Rattle.sr_agg.specs.declared.agg.AggFault.{AggFault}
use Rattle.sr_agg.specs.declared.agg.AggFault.TheVariants.{Sql}
use Rattle.sr_agg.specs.declared.statement.Aggregate as aggregates
use Rattle.sr_agg.specs.Inner.{inner_text, group_count}
use Rattle.sr_agg.specs.Statement.{outer}
use Rattle.sr_agg.specs.Starting.{Starts, asked_by, behind_query, item_of, judged, not_grouped, scope_of, sum_of_text}
use Rattle.sr_agg.specs.Starting.{Plan as Telling}
use Rattle.sr_report.specs.Plans.{Entry, Asks, Tells, task_of, ComesTo, LineComesTo}
use Rattle.sr_report.specs.Steps.{IsStep, IsStepOf}
use Rattle.sr_report.specs.declared.report.Step.{Step}
use Rattle.sr_report.specs.declared.report.Step.TheVariants as step

-- ---- events

-- an event that is the client's own asks something of it
pub task_for : (id : ℕ) (tables : List Table) (event : Event) (meaning : ScriptEvent) → IsEvent tables event meaning → is_own id event ≡ true → (task : Task) × IsTask tables event task × (task_of meaning ≡ Some task)
task_for id tables (read.Query n query) meaning is own = (Do (Queried is.0), (is.0, is.1, refl), ap task_of is.2)
task_for id tables (read.Write n sql) meaning is own = (Do (Wrote sql), refl, ap task_of is)
task_for id tables (read.Evict n place) meaning is own = (Do (Evicted place), refl, ap task_of is)
task_for id tables (read.Cut n) meaning is own = (Do WasCut, refl, ap task_of is)
task_for id tables (read.Resume n) meaning is own = (Do Resumed, refl, ap task_of is)
task_for id tables (read.Explain n query) meaning is own = (Explain is.0, is.1, ap task_of is.2)
task_for id tables (read.Exec statement) meaning is own = absurd cc
task_for id tables (read.Push n) meaning is own = absurd cc
task_for id tables (read.ToServer n) meaning is own = absurd cc
task_for id tables (read.ToClient n) meaning is own = absurd cc
task_for id tables (read.Settle n) meaning is own = absurd cc

-- the entry of a line, and that its step is this
abbrev pub Made : List Table → ℕ → ℕ × Saying → Step → Type 0
Made tables id saying made = (entry : ℕ × Entry) × LineComesTo tables saying entry × IsStep tables id made entry

event_step : (id : ℕ) (tables : List Table) (l : EventLine) (number : ℕ) (saying : Saying) → IsReportLine id tables (line.Event l) (number, saying) → Made tables id (number, saying) (step.Line l)
event_step id tables l number (said.Event words) is =
    let task = task_for id tables l.event is.1.0 is.1.2 is.2 in
    ((number, Asks task.0), (refl, (is.1.0, is.1.1, task.2)), (is.0, task.1))
event_step id tables l number (Aggregate sql) is = absurd is

pub made_of_event : (id : ℕ) (tables : List Table) (l : EventLine) (saying : ℕ × Saying) → IsReportLine id tables (line.Event l) saying → Made tables id saying (step.Line l)
made_of_event id tables l saying is = event_step id tables l saying.0 saying.1 is

-- ---- aggregates

aggregate_step : (id : ℕ) (tables : List Table) (n : ℕ) (sql : List ℕ) (number : ℕ) (saying : Saying) (made : Step) → IsReportLine id tables (line.Aggregate n sql) (number, saying)
    → (entry : Entry) × ComesTo tables (Aggregate sql) entry × IsStepOf tables id made n entry → Made tables id (number, saying) made
aggregate_step id tables n sql number (said.Event words) made is of = absurd is
aggregate_step id tables n sql number (Aggregate text) made is of = (
  (number, of.0),
  (refl, subst (λ (z : List ℕ). ComesTo tables (Aggregate z) of.0) is.1 of.1),
  subst (λ (z : ℕ). IsStepOf tables id made z of.0) is.0 of.2,
)

pub made_of_aggregate : (id : ℕ) (tables : List Table) (n : ℕ) (sql : List ℕ) (saying : ℕ × Saying) (made : Step) → IsReportLine id tables (line.Aggregate n sql) saying
    → (entry : Entry) × ComesTo tables (Aggregate sql) entry × IsStepOf tables id made n entry → Made tables id saying made
made_of_aggregate id tables n sql saying made is of = aggregate_step id tables n sql saying.0 saying.1 made is of

-- ---- the query of an aggregate

-- an inner text asks what it was found to ask
asks_one : (tables : List Table) (sql : List ℕ) (s : Result Statement Fault) (q : Query) (asking : Result Query Fault) → Says sql s → asked_by tables s ≡ Ok q → AsksOf tables sql asking → asking ≡ Ok q
asks_one tables sql (Err fault) q asking says asks of = absurd cc
asks_one tables sql (Ok s) q (Ok p) says asks of =
    let one : Ok of.0 ≡ Ok s = each_says_one sql (Ok of.0) (Ok s) of.1 says in
    let same : of.0 ≡ s = cc in
    sym of.2 ∙ ap (bound_query tables) same ∙ asks
asks_one tables sql (Ok s) q (Err fault) says asks of = elim of as (λ _. Err fault ≡ Ok q) [
  | inl refused ↦ (let one : Ok s ≡ Err fault = each_says_one sql (Ok s) (Err fault) says refused in absurd cc)
  | inr unbound ↦ (let one : Ok unbound.0 ≡ Ok s = each_says_one sql (Ok unbound.0) (Ok s) unbound.1 says in
      let same : unbound.0 ≡ s = cc in
      sym unbound.2 ∙ ap (bound_query tables) same ∙ asks)
]

-- what was judged and not refused
begins-as : (n m : Option ℕ) (telling made : Telling) → Ok telling ≡ judged n m made → telling ≡ made
begins-as None None telling made e = cc
begins-as None (Some place) telling made e = absurd cc
begins-as (Some place) m telling made e = absurd cc

-- what the inner text of an aggregate that begins asks
pub begun_asks : (tables : List Table) (sql : List ℕ) (telling : Telling) (asking : Result Query Fault) → Starts tables sql (Ok telling) → AsksOf tables telling.inner asking → (q : Query) × (asking ≡ Ok q)
begun_asks tables sql telling asking starts of = by (outer sql) refl starts
  where
    with : (a : aggregates.Aggregate) (s : Result Statement Fault) → Says (inner_text tables sql a) s → (found : Result Query Fault) → asked_by tables s ≡ found → Ok telling ≡ behind_query tables sql a found → (q : Query) × (asking ≡ Ok q)
    with a s says (Err fault) found e = absurd cc
    with a s says (Ok q) found e =
        let made : Telling = record { inner = inner_text tables sql a; groups = group_count a; items = map (item_of (scope_of a q)) a.items } in
        let is : telling ≡ made = begins-as (not_grouped (scope_of a q) a.items) (sum_of_text tables (scope_of a q) a.items) telling made e in
        (q, asks_one tables (inner_text tables sql a) s q asking says found (subst (λ (z : Telling). AsksOf tables z.inner asking) is of))

    by : (o : Result aggregates.Aggregate Fault) → outer sql ≡ o → Starts tables sql (Ok telling) → (q : Query) × (asking ≡ Ok q)
    by (Err fault) is starts = let e : Ok telling ≡ Err (Sql fault) = rw is at starts in absurd cc
    by (Ok a) is starts = let e = rw is at starts in with a e.0 e.1 (asked_by tables e.0) refl e.2

pub made_of_begun : (id : ℕ) (tables : List Table) (number : ℕ) (sql : List ℕ) (telling : Telling) (query : Result code.Query Fault) → Starts tables sql (Ok telling) → IsAsking tables telling.inner query
    → (entry : Entry) × ComesTo tables (Aggregate sql) entry × IsStepOf tables id (step.Tell (record { number = number; event = read.Query id query }) telling) number entry
made_of_begun id tables number sql telling query starts asking =
    let q = begun_asks tables sql telling asking.0 starts asking.1 in (
      Tells q.0 telling,
      (starts, subst (AsksOf tables telling.inner) q.1 asking.1),
      (refl, (asking.0, asking.2, ap (λ (z : Result Query Fault). Queried z) (sym q.1)), refl),
    )

-- what is made of an answer, if there is one
pub if-ok : {T E : Type 0} (P Q : T → Type 0) (r : Result T E) → ((x : T) → P x → Q x) → IfOk r P → IfOk r Q
if-ok P Q (Ok x) then has = then x has
if-ok P Q (Err e) then has = has

-- ---- all lines

-- the last of those that go with a list and one more
record Last {A B : Type 0} (R : A → B → Type 0) (xs : List A) (x : A) (ys : List B) : Type 0 where
  pub front : List B
  pub last : B
  pub are : ys ≡ front ++ last ∷ []
  pub before : AllZip R xs front
  pub here : R x last

last_of : {A B : Type 0} (R : A → B → Type 0) (xs : List A) (x : A) (ys : List B) → AllZip R (xs ++ x ∷ []) ys → Last R xs x ys
last_of R [] x [] all = absurd all
last_of R [] x (y ∷ []) all = record { front = []; last = y; are = refl; before = tt; here = all.0 }
last_of R [] x (y ∷ z ∷ ys) all = absurd all.1
last_of R (a ∷ xs) x [] all = absurd all
last_of {A} {B} R (a ∷ xs) x (y ∷ ys) all =
    let more : Last R xs x ys = last_of R xs x ys all.1 in
    record { front = y ∷ more.front; last = more.last; are = ap (λ (zs : List B). y ∷ zs) more.are; before = (all.0, more.before); here = more.here }

-- what the lines come to, and that these are their steps
abbrev pub AreMade : List Table → ℕ → List (ℕ × Saying) → List Step → Type 0
AreMade tables id sayings steps = (entries : List (ℕ × Entry)) × AllZip (LineComesTo tables) sayings entries × AllZip (IsStep tables id) steps entries

pub made_more : (id : ℕ) (tables : List Table) (lines : List ReportLine) (l : ReportLine) (steps : List Step) (made : Step) → ((sayings : List (ℕ × Saying)) → AllZip (IsReportLine id tables) lines sayings → AreMade tables id sayings steps)
    → ((saying : ℕ × Saying) → IsReportLine id tables l saying → Made tables id saying made) → (sayings : List (ℕ × Saying)) → AllZip (IsReportLine id tables) (lines ++ l ∷ []) sayings → AreMade tables id sayings (steps ++ made ∷ [])
made_more id tables lines l steps made so_far one sayings are =
    let last = last_of (IsReportLine id tables) lines l sayings are in
    let before = so_far last.front last.before in
    let here = one last.last last.here in (
      before.0 ++ here.0 ∷ [],
      subst (λ (z : List (ℕ × Saying)). AllZip (LineComesTo tables) z (before.0 ++ here.0 ∷ [])) (sym last.are) (AllZip-push (LineComesTo tables) last.front before.0 last.last here.0 before.1 here.1),
      AllZip-push (IsStep tables id) steps before.0 made here.0 before.2 here.2,
    )
