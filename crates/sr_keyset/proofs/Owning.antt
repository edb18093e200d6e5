-- What a line asks.
use denote.Ref.{Bor}
use Rattle.std.proofs.Common.{◌≡◌, ℕ, true, false, refl, sym, ap, subst, ◌∙◌}
use Rattle.std.specs.Prelude.{List, Option, Some, None, Result}
use Rattle.sr_cell.specs.declared.fault.Fault.{Fault}
use Rattle.std.specs.Option.{is_some}
use Rattle.sr_cell.specs.declared.table.Table.{Table}
use Rattle.sr_dial.specs.Calls.{Task, Do, Explain}
use Rattle.sr_dial.specs.Following.{ahead_of}
use Rattle.sr_dial.specs.Known.{IsTask}
use Rattle.sr_dial.specs.declared.parts.Answer.{Answer}
use Rattle.sr_dial.specs.declared.plans.Job.TheVariants as job
use Rattle.sr_keyset.specs.declared.jobs.Handed.{Handed}
use Rattle.sr_keyset.specs.declared.lines.TextLine.{TextLine}
use Rattle.sr_keyset.specs.Follows.{Hands, HandsLine, HandsQuery}
use Rattle.sr_keyset.specs.Lines.{is_query}
use Rattle.sr_keyset.specs.Plans.{AreSaid, Said, asked_by, line_plan, runs}
use Rattle.sr_keyset.proofs.Saying.{asked-is}
use Rattle.sr_lines.specs.Events.{ScriptEvent, DoQuery, DoWrite, DoExplain, DoEvict, DoCut, DoResume}
use Rattle.sr_lines.specs.Script.{Means, Words, ExecSql, QuerySql, WriteSql, ExplainSql, PushTo, ToServer, ToClient, Settle, Evict, Cut, Resume}
use Rattle.sr_links.specs.Steps.{Queried, Wrote, Evicted, WasCut, Resumed}
use Rattle.sr_plan.specs.Plans.{Plan, Next}
use Rattle.sr_reader.specs.declared.script.Event.{Event}
use Rattle.sr_reader.specs.declared.script.Event.TheVariants as read
use Rattle.sr_reader.specs.declared.words.Words as written
use Rattle.sr_reader.specs.declared.words.Words.TheVariants as words
use Rattle.sr_reader.specs.LineSeen.{words_seen}
use Rattle.sr_query.specs.declared.query.Query as code
use Rattle.sr_reader.specs.Meaning.{IsAsking, IsSaid}
use Rattle.sr_reader.specs.Read.{IsEvent}
use Rattle.sr_reader.specs.Read as reading
use Rattle.sr_setup.specs.ClientFiles.{doer_of}

-- what an event asks of a client
abbrev task_of : ScriptEvent → Option Task
task_of (DoQuery n query) = Some (Do (Queried query))
task_of (DoWrite n sql) = Some (Do (Wrote sql))
task_of (DoExplain n query) = Some (Explain query)
task_of (DoEvict n place) = Some (Do (Evicted place))
task_of (DoCut n) = Some (Do WasCut)
task_of (DoResume n) = Some (Do Resumed)
task_of other = None

-- what the code's event asks is what its meaning asks
read-task : (schema : List Table) (event : Event) (meaning : ScriptEvent) (task : Task) → IsEvent schema event meaning → task_of meaning ≡ Some task → IsTask schema event task
read-task schema (read.Query n query) meaning task is asks = let same : Do (Queried is.0) ≡ task = let e = ap task_of is.2 in cc in subst (IsTask schema (read.Query n query)) same (is.0, is.1, refl)
read-task schema (read.Write n sql) meaning task is asks = let same : Do (Wrote sql) ≡ task = let e = ap task_of is in cc in subst (IsTask schema (read.Write n sql)) same refl
read-task schema (read.Evict n place) meaning task is asks = let same : Do (Evicted place) ≡ task = let e = ap task_of is in cc in subst (IsTask schema (read.Evict n place)) same refl
read-task schema (read.Cut n) meaning task is asks = let same : Do WasCut ≡ task = let e = ap task_of is in cc in subst (IsTask schema (read.Cut n)) same refl
read-task schema (read.Resume n) meaning task is asks = let same : Do Resumed ≡ task = let e = ap task_of is in cc in subst (IsTask schema (read.Resume n)) same refl
read-task schema (read.Explain n query) meaning task is asks = let same : Explain is.0 ≡ task = let e = ap task_of is.2 in cc in subst (IsTask schema (read.Explain n query)) same is.1
read-task schema (read.Exec statement) meaning task is asks = absurd (let e = ap task_of is in cc)
read-task schema (read.Push n) meaning task is asks = absurd (let e = ap task_of is in cc)
read-task schema (read.ToServer n) meaning task is asks = absurd (let e = ap task_of is in cc)
read-task schema (read.ToClient n) meaning task is asks = absurd (let e = ap task_of is in cc)
read-task schema (read.Settle n) meaning task is asks = absurd (let e = ap task_of is in cc)

-- a query that a text asks is run as one
pub query-task : (schema : List Table) (said : Said) (client : ℕ) (sql : List ℕ) (query : Result code.Query Fault) → AreSaid said → IsAsking schema sql query → IsTask schema (read.Query client query) (runs schema said sql)
query-task schema said client sql query says (meaning, asks, means) =
    let same = asked-is schema said says sql meaning asks in
    (asked_by schema (said sql), subst (λ m. reading.Means schema query m) same means, refl)

-- The plan of a line goes on with one task, whatever its answer is.
record Asks (schema : List Table) (said : Said) (number : ℕ) (line : Words) (rest : Plan Task Answer) (meaning : ScriptEvent) : Type 0 where
  task : Task
  asks : task_of meaning ≡ Some task
  plan_is : line_plan schema said number line rest ≡ Next number task (λ answer. rest)
  goes : (answer : Option Answer) → ahead_of task (λ same. rest) answer ≡ rest

module _ (schema : List Table) (said : Said) (says : AreSaid said) (number : ℕ) (rest : Plan Task Answer) where
  line-asks : (line : Words) (meaning : ScriptEvent) → Means schema line meaning → is_some (doer_of line) ≡ true → is_query line ≡ false → Asks schema said number line rest meaning
  line-asks (WriteSql client sql) meaning means own other = record { task = Do (Wrote sql); asks = ap task_of means; plan_is = refl; goes = λ answer. refl }
  line-asks (ExplainSql client sql) meaning (query, asks, is) own other = record {
    task = Explain (asked_by schema (said sql));
    asks = ap task_of is ∙ ap (λ q. Some (Explain q)) (asked-is schema said says sql query asks);
    plan_is = refl;
    goes = λ answer. refl;
  }
  line-asks (Evict client place) meaning means own other = record { task = Do (Evicted place); asks = ap task_of means; plan_is = refl; goes = λ answer. refl }
  line-asks (Cut client) meaning means own other = record { task = Do WasCut; asks = ap task_of means; plan_is = refl; goes = λ answer. refl }
  line-asks (Resume client) meaning means own other = record { task = Do Resumed; asks = ap task_of means; plan_is = refl; goes = λ answer. refl }
  line-asks (QuerySql client sql) meaning means own other = absurd cc
  line-asks (ExecSql sql) meaning means own other = absurd cc
  line-asks (PushTo client) meaning means own other = absurd cc
  line-asks (ToServer client) meaning means own other = absurd cc
  line-asks (ToClient client) meaning means own other = absurd cc
  line-asks (Settle client) meaning means own other = absurd cc

  -- so its event is handed out
  pub hands-other : (line : Words) (event : Event) (h : Handed) → IsSaid schema line event → is_some (doer_of line) ≡ true → is_query line ≡ false → h ≡ record { job = job.Line (record { number = number; event = event }); going = None }
      → Hands schema said rest (line_plan schema said number line rest) h
  hands-other line event h (meaning, means, is, fits) own other same =
      let a = line-asks line meaning means own other in
      subst (λ x. Hands schema said rest (line_plan schema said number line rest) x) (sym same)
      (record {
        task = a.task;
        further = λ answer. rest;
        is = read-task schema event meaning a.task is a.asks;
        plan_is = a.plan_is;
        goes = a.goes;
      })

-- words that are no query's
pub not-query : (w : written.Words) → ((client : ℕ) (sql : _) → w ≡ words.Query client sql → ⊥) → is_query (words_seen w) ≡ false
not-query (words.Query client sql) other = absurd (other client sql refl)
not-query (words.Exec sql) other = refl
not-query (words.Write client sql) other = refl
not-query (words.Explain client sql) other = refl
not-query (words.Push client) other = refl
not-query (words.ToServer client) other = refl
not-query (words.ToClient client) other = refl
not-query (words.Settle client) other = refl
not-query (words.Evict client place) other = refl
not-query (words.Cut client) other = refl
not-query (words.Resume client) other = refl

-- a line that is a query is handed out as one
pub hands-query : (schema : List Table) (line : TextLine) (client : ℕ) (sql : Bor (List ℕ)) (h : Handed) → line.words ≡ words.Query client sql → HandsQuery schema line.number client sql.now h → HandsLine schema line h
hands-query schema line client sql h is hands said rest says own =
    subst (λ (w : written.Words). Hands schema said rest (line_plan schema said line.number (words_seen w) rest) h) (sym is) (hands said rest says)
