-- Rows of a table, lent with the cells of some of its columns.
use Rattle.std.specs.Prelude.{ℕ, Bool, true, List, [], ◌∷◌, map, filter, ◌≡◌}
use Rattle.std.specs.List.{AllZip}
use Rattle.sr_cell.specs.declared.cell.Cell.{Cell}
use Rattle.sr_cell.specs.Attrs.{includes, project}
use Rattle.sr_cell.specs.Cells.{Row, cell_at}
use Rattle.sr_model.specs.SortedRows.{ascend}
use Rattle.sr_region.specs.Regions.{rank}

-- these cells, which are of these columns
pub record Shown : Type 0 where
  pub attrs : ℕ
  pub cells : Row

-- the cell of that column of the table; of a column that is not there, some cell, or 0
abbrev pub cell_of : ℕ → Shown → Cell
cell_of column s = cell_at s.cells (rank s.attrs column)

-- it shows the row, with all of these columns
pub record Shows (need : ℕ) (p : Row) (s : Shown) : Type 0 where
  pub columns : includes s.attrs need ≡ true
  pub cells : s.cells ≡ project s.attrs p

-- they show, in order, those of the rows that pass the test
abbrev pub AreShown : ℕ → List Row → (Row → Bool) → List Shown → Type 0
AreShown need all test shown = AllZip (Shows need) (filter test all) shown

-- by their cells of that column ascending, each once
abbrev pub are_by : ℕ → List Shown → Bool
are_by column shown = ascend 0 (map (λ s. cell_of column s ∷ []) shown)
