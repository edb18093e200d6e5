-- The load: into how many pieces the queries of a client may cut its tables.
use Rattle.std.specs.Prelude.{ℕ, Bool, true, not, ◌&&◌, ◌==◌, ◌+◌, ◌*◌, ◌<◌, max, List, [], ◌∷◌, length, filter, flat_map, ◌⊎◌, IsTrue, if◌then◌else◌}
use Rattle.std.specs.List.{list_any}
use Rattle.sr_cell.specs.declared.cell.Cell.{Cell}
use Rattle.sr_cell.specs.declared.table.Column.{Column}
use Rattle.sr_cell.specs.declared.table.Table.{Table}
use Rattle.sr_cell.specs.Cells.{cell_le}
use Rattle.sr_cell.specs.Columns.{table_at, in_column}
use Rattle.sr_box.specs.Points.{HasPoint}
use Rattle.sr_box.specs.Corners.{first_value}
use Rattle.sr_union.specs.Grid.{distinct}
use Rattle.sr_message.specs.declared.message.AskPart.{AskPart}
use Rattle.sr_message.specs.Sizes.{most_rects}
use Rattle.sr_model.specs.Ends.{ends}
use Rattle.sr_model.specs.Queries.{Part, Query}
use Rattle.sr_history.specs.declared.mark.Mark.{Mark}
use Rattle.sr_history.specs.Marks.{is_held}

-- a value of the column above its first: where a test may begin or end to be true
abbrev pub is_inside : Column → Cell → Bool
is_inside column v = in_column column v && not (cell_le v (first_value column.kind column.lo))

-- the different ends of the tests of column c in the conditions of the parts
abbrev pub column_ends : ℕ → Column → List Part → List Cell
column_ends c column parts = distinct (filter (is_inside column) (flat_map (λ part. ends c part.condition) parts))

-- the product over the columns of one plus the number of their ends; c is the number of the first column
abbrev pub ends_grid : ℕ → List Column → List Part → ℕ
ends_grid c [] parts = 1
ends_grid c (column ∷ columns) parts = (1 + length (column_ends c column parts)) * ends_grid (c + 1) columns parts

-- the parts of the queries on a table
abbrev pub parts_on : ℕ → List Query → List Part
parts_on table queries = filter (λ part. part.table == table) (flat_map (λ q. q.parts) queries)

-- each number once
abbrev pub are_once : List ℕ → Bool
are_once [] = true
are_once (x ∷ xs) = not (list_any (λ y. x == y) xs) && are_once xs

-- different sets of columns, under each of which a point of the table is held, or is asked for
pub record AreSets (schema : List Table) (marks : List Mark) (asks : List AskPart) (table : ℕ) (sets : List ℕ) : Type 0 where
  pub once : IsTrue (are_once sets)
  pub each : (attrs : ℕ) → IsTrue (list_any (λ a. a == attrs) sets)
      → HasPoint (table_at schema table).columns (is_held marks table attrs) ⊎ IsTrue (list_any (λ ask. ask.table == table && ask.attrs == attrs) asks)

-- how many they are; at least one for a table that the query names
abbrev pub count_of : Query → (ℕ → List ℕ) → ℕ → ℕ
count_of q sets table = max (length (sets table)) (if list_any (λ part. part.table == table) q.parts then 1 else 0)

-- the sum over the tables; t is the number of the first
abbrev pub load_from : (ℕ → ℕ) → ℕ → List Table → List Query → ℕ
load_from counts t [] queries = 0
load_from counts t (table ∷ schema) queries = counts t * ends_grid 0 table.columns (parts_on t queries) + load_from counts (t + 1) schema queries

-- The load is too high, where the marks hold, query q asks these parts, and these are the queries whose ends count. There is a
-- greatest load, that of all such sets.
abbrev pub IsHeavy : List Table → List Mark → List AskPart → Query → List Query → Type 0
IsHeavy schema marks asks q counted =
    (sets : ℕ → List ℕ) × ((table : ℕ) → AreSets schema marks asks table (sets table)) × (most_rects < load_from (count_of q sets) 0 schema counted)
