-- Queries, and their answers on tables.
use Rattle.std.specs.Prelude.{ℕ, Bool, true, ◌&&◌, List, [], ◌∷◌, map, filter, flat_map, slice_index_or}
use Rattle.std.specs.List.{list_all}
use Rattle.sr_cell.specs.Cells.{Row, cell_at}
use Rattle.sr_box.specs.Points.{Points}
use Rattle.sr_model.specs.Conditions.{Cond, Eq, passes, is_true}

-- What a query asks of one table: the condition on it, and the columns that it needs.
pub record Part : Type 0 where
  pub table : ℕ
  pub need : ℕ
  pub condition : Cond

-- the column of part left equals the key of part right
pub record Join : Type 0 where
  pub left : ℕ
  pub column : ℕ
  pub right : ℕ
  pub key : ℕ

pub record Output : Type 0 where
  pub part : ℕ
  pub column : ℕ

pub record Query : Type 0 where
  pub parts : List Part
  pub joins : List Join
  pub outputs : List Output

-- the points of the part's table that meet its condition
abbrev pub points_of : Part → Points
points_of part p = is_true (cell_at p) part.condition

-- each choice of one row from each list, in the order of the first, then of the second, and so on
abbrev pub combinations : List (List Row) → List (List Row)
combinations [] = [] ∷ []
combinations (rows ∷ lists) = flat_map (λ row. map (λ others. row ∷ others) (combinations lists)) rows

abbrev pub row_at : List Row → ℕ → Row
row_at rows i = slice_index_or rows i []

abbrev pub rows_at : List (List Row) → ℕ → List Row
rows_at tables t = slice_index_or tables t []

-- each row meets the condition of its part
abbrev pub all_meet : List Part → List Row → Bool
all_meet [] rows = true
all_meet (part ∷ parts) [] = true
all_meet (part ∷ parts) (row ∷ rows) = points_of part row && all_meet parts rows

-- each join's equation is true; Null is equal to no key
abbrev pub joins_hold : List Join → List Row → Bool
joins_hold joins rows = list_all (λ j. passes (Eq (cell_at (row_at rows j.right) j.key)) (cell_at (row_at rows j.left) j.column)) joins

abbrev pub output_of : List Output → List Row → Row
output_of outputs rows = map (λ o. cell_at (row_at rows o.part) o.column) outputs

-- The answer: of all choices of one row for each part, those that meet the joins and the conditions, projected.
-- The tables' rows stand by key, so the answer stands by the key of the first table.
abbrev pub rows_of : Query → List (List Row) → List Row
rows_of q tables =
    map (output_of q.outputs)
    (filter (λ rows. joins_hold q.joins rows && all_meet q.parts rows) (combinations (map (λ part. rows_at tables part.table) q.parts)))
