-- The rows that a join is given, and what comes of them, over tables that change.
use Rattle.std.specs.Prelude.{◌≡◌, ℕ, Bool, true, ◌&&◌, List, [], ◌∷◌, map, filter, None}
use Rattle.std.specs.List.{list_all}
use Rattle.sr_cell.specs.declared.table.Column.{Column}
use Rattle.sr_cell.specs.declared.table.Table.{Table}
use Rattle.sr_cell.specs.declared.cell.Cell.{Cell}
use Rattle.sr_cell.specs.Attrs.{project}
use Rattle.sr_cell.specs.Cells.{Row, cell_at}
use Rattle.sr_cell.specs.Columns.{fits_columns, table_at}
use Rattle.sr_cell.specs.Names.{repeat_at}
use Rattle.sr_grammar.specs.Trees.{Statement}
use Rattle.sr_model.specs.Queries.{Part, Query, points_of, rows_at, rows_of}
use Rattle.sr_model.specs.Statements.{Tables}
use Rattle.sr_print.specs.Writable.{is_name}
use Rattle.sr_query.specs.Bound.{is_table}
use Rattle.sr_semi.specs.declared.stage.Next.{Next}
use Rattle.sr_semi.specs.declared.stage.Next.TheVariants.{Run, Joined, Plain}
use Rattle.sr_semi.specs.declared.stage.Stage.{Stage}
use Rattle.sr_semi.specs.declared.stage.Stage.TheVariants.{Left, Right, LeftAgain, Over}
use Rattle.sr_semi.specs.Going.{step_of}
use Rattle.sr_semi.specs.Keys.{is_key}
use Rattle.sr_semi.specs.Sides.{Sides, right_place, right_text}
use Rattle.sr_semi.specs.Starting.{Asks}

-- ---- tables

abbrev pub has_names : Table → Bool
has_names t = is_name t.name && list_all (λ (c : Column). is_name c.name) t.columns

-- Tables that a schema may have: each is sound, its name and those of its columns are names, and no two of its columns have one name.
pub record IsSchema (schema : List Table) : Type 0 where
  pub tables : list_all is_table schema ≡ true
  pub names : list_all has_names schema ≡ true
  pub differ : (t : ℕ) → repeat_at [] (table_at schema t).columns ≡ None

-- each row of each table fits it
abbrev pub TheyFit : List Table → Tables → Type 0
TheyFit schema tables = (t : ℕ) → list_all (fits_columns (table_at schema t).columns) (rows_at tables t) ≡ true

-- ---- rows

-- the rows of a part, with the cells that it needs
abbrev pub rows_in : Tables → Part → List Row
rows_in tables part = map (project part.need) (filter (points_of part) (rows_at tables part.table))

-- those of the right side's rows whose key is one of these
abbrev pub with_keys : Sides → List Cell → List Row → List Row
with_keys s keys rights = filter (λ r. is_key keys (cell_at r (right_place s))) rights

-- on these tables, the rows of the query that the text asks
abbrev pub IsAnswer : List Table → Tables → List ℕ → List Row → Type 0
IsAnswer schema tables text rows = (s : Statement) × (q : Query) × Asks schema text s q × (rows ≡ rows_of q tables)

-- ---- answers, one after another

-- the rows that are given for a text, at a version
pub record Answer : Type 0 where
  pub version : ℕ
  pub rows : List Row

-- The rows are those of the text that was named last, on the tables of that version.
abbrev pub Answers : List Table → (ℕ → Tables) → Sides → Stage → Answer → Type 0
Answers schema at s Left a = IsAnswer schema (at a.version) s.left.text a.rows
Answers schema at s (Right first keys lefts) a = IsAnswer schema (at a.version) (right_text s.right keys) a.rows
Answers schema at s (LeftAgain second keys rights) a = IsAnswer schema (at a.version) s.left.text a.rows
Answers schema at s Over a = Unit {0}

abbrev pub stage_behind : Sides → Stage → Answer → Stage
stage_behind s stage a = (step_of s stage a.version a.rows).stage

-- each of them does so, in turn
abbrev pub AllAnswer : List Table → (ℕ → Tables) → Sides → Stage → List Answer → Type 0
AllAnswer schema at s stage [] = Unit {0}
AllAnswer schema at s stage (a ∷ more) = Answers schema at s stage a × AllAnswer schema at s (stage_behind s stage a) more

-- what comes of each
abbrev pub nexts : Sides → Stage → List Answer → List Next
nexts s stage [] = []
nexts s stage (a ∷ more) = (step_of s stage a.version a.rows).next ∷ nexts s (stage_behind s stage a) more

-- what is joined are the rows of the query, at the version that is named
abbrev pub IsRight : (ℕ → Tables) → Query → Next → Type 0
IsRight at q (Run text) = Unit {0}
IsRight at q (Joined version keys rows) = rows ≡ rows_of q (at version)
IsRight at q Plain = Unit {0}
