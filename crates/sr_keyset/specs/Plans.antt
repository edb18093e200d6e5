-- What is run for a client's script, where joins of two tables are run by key sets.
use Rattle.std.specs.Prelude.{ℕ, zero, suc, ◌==◌, ◌&&◌, List, [], ◌∷◌, length, Option, Some, None, Result, Ok, Err, if◌then◌else◌}
use Rattle.sr_cell.specs.declared.fault.Fault.{Fault}
use Rattle.sr_cell.specs.declared.table.Table.{Table}
use Rattle.sr_dial.specs.Calls.{Task, Do, Explain, Say}
use Rattle.sr_dial.specs.Following.{Ahead}
use Rattle.sr_dial.specs.declared.parts.Answer.{Answer}
use Rattle.sr_grammar.specs.Says.{Says}
use Rattle.sr_grammar.specs.Trees.{Statement}
use Rattle.sr_keyset.specs.Told.{semi_text}
use Rattle.sr_lines.specs.Script.{Words, QuerySql, WriteSql, ExplainSql, Evict, Cut, Resume}
use Rattle.sr_links.specs.Steps.{Queried, Wrote, Evicted, WasCut, Resumed}
use Rattle.sr_model.specs.Queries.{Query}
use Rattle.sr_plan.specs.Plans.{Plan, Over, Next}
use Rattle.sr_query.specs.Binding.{bound_query}
use Rattle.sr_semi.specs.declared.stage.Next as semi
use Rattle.sr_semi.specs.declared.stage.Next.TheVariants.{Run, Joined, Plain}
use Rattle.sr_semi.specs.declared.stage.Stage.{Stage}
use Rattle.sr_semi.specs.declared.stage.Stage.TheVariants.{Left}
use Rattle.sr_semi.specs.Going.{is_read, step_of}
use Rattle.sr_semi.specs.Sides.{Sides, sides_of}

-- ---- what texts ask

-- what each text says
abbrev pub Said : Type 0
Said = List ℕ → Result Statement Fault

abbrev pub AreSaid : Said → Type 0
AreSaid said = (text : List ℕ) → Says text (said text)

-- what a text asks of the tables, or why it is refused, by what it says
abbrev pub asked_by : List Table → Result Statement Fault → Result Query Fault
asked_by schema (Ok s) = bound_query schema s
asked_by schema (Err fault) = Err fault

-- the sides of a query of two tables, if its left text can be read
abbrev pub sides_by : List Table → Statement → Result Query Fault → Option Sides
sides_by schema s (Ok q) = if length q.parts == 2 && is_read (sides_of schema s q).left.text then Some (sides_of schema s q) else None
sides_by schema s (Err fault) = None

abbrev pub sides_if : List Table → Result Statement Fault → Option Sides
sides_if schema (Ok s) = sides_by schema s (bound_query schema s)
sides_if schema (Err fault) = None

-- ---- joins

-- A join that a line asks: the line's number and client, the sides, the line's own query, and what is done behind the line.
pub record Join : Type 0 where
  pub number : ℕ
  pub client : ℕ
  pub sides : Sides
  pub own : Task
  pub rest : Plan Task Answer

module _ (schema : List Table) (said : Said) where
  -- the text is run as a query
  abbrev pub runs : List ℕ → Task
  runs text = Do (Queried (asked_by schema (said text)))

  -- A text is run, and then goes on with its answer; or what was joined is written; or the line's own query is run.
  abbrev pub does : Join → semi.Next → Ahead → Plan Task Answer
  does j (Run text) further = Next j.number (runs text) further
  does j (Joined version keys rows) further = Next j.number (Say (semi_text j.number j.client keys version rows)) (λ answer. j.rest)
  does j Plain further = Next j.number j.own (λ answer. j.rest)

  -- Behind a text: where it had no answer, nothing more is done for the line; else what comes of the answer, by which at most so many
  -- texts more are run.
  abbrev pub behind_text : ℕ → Join → Stage → Ahead
  behind_text texts j stage None = j.rest
  behind_text zero j stage (Some a) = does j (step_of j.sides stage a.version a.rows).next (λ answer. j.rest)
  behind_text (suc texts) j stage (Some a) =
      does j (step_of j.sides stage a.version a.rows).next (behind_text texts j (step_of j.sides stage a.version a.rows).stage)

  -- ---- lines

  -- A query is run as it is, or, where it has sides, by these: first the left text, and behind it two texts more at most.
  abbrev pub query_plan : ℕ → ℕ → List ℕ → Option Sides → Plan Task Answer → Plan Task Answer
  query_plan number client sql None rest = Next number (runs sql) (λ answer. rest)
  query_plan number client sql (Some sides) rest =
      Next number (runs sides.left.text) (behind_text 2 (record { number = number; client = client; sides = sides; own = runs sql; rest = rest }) Left)

  -- what words ask of the client; statements, pushes and deliveries ask nothing of it
  abbrev pub line_plan : ℕ → Words → Plan Task Answer → Plan Task Answer
  line_plan number (QuerySql client sql) rest = query_plan number client sql (sides_if schema (said sql)) rest
  line_plan number (WriteSql client sql) rest = Next number (Do (Wrote sql)) (λ answer. rest)
  line_plan number (ExplainSql client sql) rest = Next number (Explain (asked_by schema (said sql))) (λ answer. rest)
  line_plan number (Evict client place) rest = Next number (Do (Evicted place)) (λ answer. rest)
  line_plan number (Cut client) rest = Next number (Do WasCut) (λ answer. rest)
  line_plan number (Resume client) rest = Next number (Do Resumed) (λ answer. rest)
  line_plan number other rest = rest

  -- the lines of a script, one after another
  abbrev pub key_set_plan : List (ℕ × Words) → Plan Task Answer
  key_set_plan [] = Over
  key_set_plan (line ∷ lines) = line_plan line.0 line.1 (key_set_plan lines)
