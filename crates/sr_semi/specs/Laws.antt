-- What is joined is the answer, whatever the tables are at each version.
use Rattle.std.specs.Prelude.{◌≡◌, ℕ, ◌≤◌, ◌+◌, true, List, [], ◌∷◌, length}
use Rattle.std.specs.List.{All, list_all}
use Rattle.sr_cell.specs.declared.cell.Cell.{Cell}
use Rattle.sr_cell.specs.declared.table.Table.{Table}
use Rattle.sr_cell.specs.Cells.{Row}
use Rattle.sr_grammar.specs.Trees.{Statement}
use Rattle.sr_model.specs.Queries.{Query, rows_of}
use Rattle.sr_model.specs.Statements.{Tables}
use Rattle.sr_query.specs.Binding.{is_inside}
use Rattle.sr_semi.specs.declared.stage.Next.{Next}
use Rattle.sr_semi.specs.declared.stage.Next.TheVariants.{Run, Joined, Plain}
use Rattle.sr_semi.specs.declared.stage.Stage.{Stage}
use Rattle.sr_semi.specs.declared.stage.Stage.TheVariants.{Left, Right, LeftAgain, Over}
use Rattle.sr_semi.specs.Answers.{IsSchema, TheyFit, rows_in, with_keys, IsAnswer, Answer, AllAnswer, nexts, IsRight}
use Rattle.sr_semi.specs.Going.{joined, step_of}
use Rattle.sr_semi.specs.Keys.{all_have, values_at}
use Rattle.sr_semi.specs.Sides.{Sides, left_place, part_at, sides_of, right_text}
use Rattle.sr_semi.specs.Starting.{Asks}

-- What is joined of both parts is the query's answer, where each left row has one of the keys.
abbrev pub PartsJoin : Type 0
PartsJoin = (schema : List Table) (tables : Tables) (sql : List ℕ) (s : Statement) (q : Query) (keys : List Cell)
    → Asks schema sql s q → length q.parts ≡ 2 → all_have (left_place (sides_of schema s q)) keys (rows_in tables (part_at q 0)) ≡ true
    → joined (sides_of schema s q) (rows_in tables (part_at q 0)) (with_keys (sides_of schema s q) keys (rows_in tables (part_at q 1))) ≡ rows_of q tables

-- The values of rows are among those that are found in them.
abbrev pub ValuesAreAmong : Type 0
ValuesAreAmong = (place : ℕ) (rows : List Row) → all_have place (values_at place rows) rows ≡ true

-- The left text asks the rows of the left part; the right text those of the right part that have one of the keys, which are values that
-- columns may have, and none is Null.
pub record TextsAskParts (schema : List Table) (s : Statement) (q : Query) (tables : Tables) : Type 0 where
  pub left : (rows : List Row) → IsAnswer schema tables (sides_of schema s q).left.text rows → rows ≡ rows_in tables (part_at q 0)
  pub right : (key : Cell) (more : List Cell) (rows : List Row) → list_all is_inside (key ∷ more) ≡ true
      → IsAnswer schema tables (right_text (sides_of schema s q).right (key ∷ more)) rows
      → rows ≡ with_keys (sides_of schema s q) (key ∷ more) (rows_in tables (part_at q 1))

-- so they do of each query of two tables
abbrev pub TextsAsk : Type 0
TextsAsk = (schema : List Table) (sql : List ℕ) (s : Statement) (q : Query) (tables : Tables) → IsSchema schema → TheyFit schema tables
    → Asks schema sql s q → length q.parts ≡ 2 → TextsAskParts schema s q tables

-- Whatever the tables are at each version, and however many answers are given: where each is that of the text that was named last, what is
-- joined are the rows of the query at the version that is named.
abbrev pub JoinedIsAnswer : Type 0
JoinedIsAnswer = (schema : List Table) (at : ℕ → Tables) (sql : List ℕ) (s : Statement) (q : Query) (answers : List Answer)
    → IsSchema schema → ((version : ℕ) → TheyFit schema (at version)) → Asks schema sql s q → length q.parts ≡ 2
    → AllAnswer schema at (sides_of schema s q) Left answers → All (IsRight at q) (nexts (sides_of schema s q) Left answers)

-- how many texts an answer names
abbrev pub is_run : Next → ℕ
is_run (Run text) = 1
is_run (Joined version keys rows) = 0
is_run Plain = 0

-- how many texts are named
abbrev pub runs_in : List Next → ℕ
runs_in [] = 0
runs_in (n ∷ more) = is_run n + runs_in more

-- how many texts may still be named, behind that of a stage
abbrev pub texts_left : Stage → ℕ
texts_left Left = 2
texts_left (Right first keys lefts) = 1
texts_left (LeftAgain second keys rights) = 0
texts_left Over = 0

-- A text that comes of an answer is one of those that were left, and one fewer is left then.
abbrev pub TextsGoDown : Type 0
TextsGoDown = (s : Sides) (stage : Stage) (version : ℕ) (rows : List Row) (text : List ℕ)
    → (step_of s stage version rows).next ≡ Run text → texts_left stage ≡ texts_left (step_of s stage version rows).stage + 1

-- Behind the first left text no more than two are named, however many answers are given.
abbrev pub FewTexts : Type 0
FewTexts = (s : Sides) (answers : List Answer) → runs_in (nexts s Left answers) ≤ 2
