-- Facts of all tasks of the plan.
use Rattle.std.proofs.Common.{◌≡◌, ℕ, zero, suc, List, [], ◌∷◌, refl, sym, subst}
use Rattle.std.specs.Prelude.{Option, Some, None, Result, Ok, Err}
use Rattle.sr_cell.specs.declared.fault.Fault.{Fault}
use Rattle.sr_cell.specs.declared.table.Table.{Table}
use Rattle.sr_dial.specs.Calls.{Task, Do, Explain, Say}
use Rattle.sr_dial.specs.Following.{Ahead}
use Rattle.sr_dial_laws.specs.Honest.{AsksFew, IsAskedFor}
use Rattle.sr_dial.specs.declared.parts.Answer.{Answer}
use Rattle.sr_grammar.specs.Trees.{Statement}
use Rattle.sr_keyset.specs.Laws.{FilesAskFew, FilesAskForNone, TasksAreAskedFor}
use Rattle.sr_keyset.specs.Lines.{words_in}
use Rattle.sr_keyset.specs.Plans.{Join, Said, asked_by, behind_text, does, key_set_plan, line_plan, query_plan, runs, sides_if}
use Rattle.sr_lines.specs.Script.{Words, ExecSql, QuerySql, WriteSql, ExplainSql, PushTo, ToServer, ToClient, Settle, Evict, Cut, Resume}
use Rattle.sr_lines.proofs.Joined.{bound_have_few_parts}
use Rattle.sr_links.specs.Steps.{Queried, Wrote, Evicted, WasCut, Resumed}
use Rattle.sr_model.specs.Queries.{Query}
use Rattle.sr_plan.specs.Plans.{AllTasks, Plan}
use Rattle.sr_query.specs.Binding.{bound_query}
use Rattle.sr_semi.specs.declared.stage.Next as semi
use Rattle.sr_semi.specs.declared.stage.Next.TheVariants.{Run, Joined, Plain}
use Rattle.sr_semi.specs.declared.stage.Stage.{Stage}
use Rattle.sr_semi.specs.declared.stage.Stage.TheVariants.{Left}
use Rattle.sr_semi.specs.Going.{step_of}
use Rattle.sr_semi.specs.Sides.{Sides}

-- It is so of each kind of task that a plan has.
record IsOfEach (schema : List Table) (P : Task → Type 0) : Type 0 where
  pub asks : (text : Result Statement Fault) → P (Do (Queried (asked_by schema text)))
  pub writes : (sql : List ℕ) → P (Do (Wrote sql))
  pub explains : (text : Result Query Fault) → P (Explain text)
  pub evicts : (place : ℕ) → P (Do (Evicted place))
  pub cuts : P (Do WasCut)
  pub resumes : P (Do Resumed)
  pub says : (text : List ℕ) → P (Say text)

module _ (schema : List Table) (said : Said) (P : Task → Type 0) (each : IsOfEach schema P) where
  does-all : (j : Join) (next : semi.Next) (further : Ahead) → P j.own → AllTasks P j.rest → ((answer : Option Answer) → AllTasks P (further answer)) → AllTasks P (does schema said j next further)
  does-all j (Run text) further own rest more = (each.asks (said text), more)
  does-all j (Joined version keys rows) further own rest more = (each.says _, λ answer. rest)
  does-all j Plain further own rest more = (own, λ answer. rest)

  behind-all : (texts : ℕ) (j : Join) (stage : Stage) → P j.own → AllTasks P j.rest → (answer : Option Answer) → AllTasks P (behind_text schema said texts j stage answer)
  behind-all texts j stage own rest None = rest
  behind-all zero j stage own rest (Some a) = does-all j (step_of j.sides stage a.version a.rows).next (λ answer. j.rest) own rest (λ answer. rest)
  behind-all (suc texts) j stage own rest (Some a) =
      let step = step_of j.sides stage a.version a.rows in
      does-all j step.next (behind_text schema said texts j step.stage) own rest (behind-all texts j step.stage own rest)

  query-all : (number client : ℕ) (sql : List ℕ) (sides : Option Sides) (rest : Plan Task Answer) → AllTasks P rest → AllTasks P (query_plan schema said number client sql sides rest)
  query-all number client sql None rest more = (each.asks (said sql), λ answer. more)
  query-all number client sql (Some sides) rest more =
      (each.asks (said sides.left.text), behind-all 2 (record { number = number; client = client; sides = sides; own = runs schema said sql; rest = rest }) Left (each.asks (said sql)) more)

  line-all : (number : ℕ) (words : Words) (rest : Plan Task Answer) → AllTasks P rest → AllTasks P (line_plan schema said number words rest)
  line-all number (QuerySql client sql) rest more = query-all number client sql (sides_if schema (said sql)) rest more
  line-all number (WriteSql client sql) rest more = (each.writes sql, λ answer. more)
  line-all number (ExplainSql client sql) rest more = (each.explains (asked_by schema (said sql)), λ answer. more)
  line-all number (Evict client place) rest more = (each.evicts place, λ answer. more)
  line-all number (Cut client) rest more = (each.cuts, λ answer. more)
  line-all number (Resume client) rest more = (each.resumes, λ answer. more)
  line-all number (ExecSql sql) rest more = more
  line-all number (PushTo client) rest more = more
  line-all number (ToServer client) rest more = more
  line-all number (ToClient client) rest more = more
  line-all number (Settle client) rest more = more

  lines-all : (lines : List (ℕ × Words)) → AllTasks P (key_set_plan schema said lines)
  lines-all [] = tt
  lines-all (line ∷ lines) = line-all line.0 line.1 (key_set_plan schema said lines) (lines-all lines)

-- ---- none is to take a message

each-asked : (schema : List Table) → IsOfEach schema IsAskedFor
each-asked schema = record { asks = λ text. tt; writes = λ sql. tt; explains = λ text. tt; evicts = λ place. tt; cuts = tt; resumes = tt; says = λ text. tt }

pub tasks-are-asked-for : TasksAreAskedFor
tasks-are-asked-for schema said lines = lines-all schema said IsAskedFor (each-asked schema) lines

pub files-ask-for-none : FilesAskForNone
files-ask-for-none id schema script tables ahead asks =
    subst (λ (p : Plan Task Answer). AllTasks IsAskedFor p) (sym (asks.ahead_is None)) (tasks-are-asked-for tables asks.said (words_in script))

-- ---- each asks at most four parts

asks-few : (schema : List Table) (text : Result Statement Fault) → AsksFew (Do (Queried (asked_by schema text)))
asks-few schema (Err fault) = tt
asks-few schema (Ok s) = by (bound_query schema s) refl
  where
    by : (query : Result Query Fault) → bound_query schema s ≡ query → AsksFew (Do (Queried query))
    by (Ok q) is = bound_have_few_parts schema s q is
    by (Err fault) is = tt

each-few : (schema : List Table) → IsOfEach schema AsksFew
each-few schema = record { asks = asks-few schema; writes = λ sql. tt; explains = λ text. tt; evicts = λ place. tt; cuts = tt; resumes = tt; says = λ text. tt }

pub files-ask-few : FilesAskFew
files-ask-few id schema script tables ahead asks =
    subst (λ (p : Plan Task Answer). AllTasks AsksFew p) (sym (asks.ahead_is None)) (lines-all tables asks.said AsksFew (each-few tables) (words_in script))
