-- The place of a row among rows by key.
use Rattle.std.specs.Prelude.{ℕ, Bool, true, false, ◌||◌, List, [], ◌∷◌}
use Rattle.std.specs.List.{list_all, prefix_len}
use Rattle.sr_cell.specs.declared.cell.Cell.{Cell}
use Rattle.sr_cell.specs.Cells.{Row, cell_at, cell_le}
use Rattle.sr_model.specs.SortedRows.{key_lt}

-- how many rows from the front on have a key that is at most the cell
abbrev pub place_at : ℕ → Cell → List Row → ℕ
place_at key v rows = prefix_len (λ row. cell_le (cell_at row key) v) rows

-- the row's key stands before or behind each other's
abbrev pub is_apart : ℕ → List Row → Row → Bool
is_apart key rows row = list_all (λ other. key_lt key other row || key_lt key row other) rows

-- of two lists by key put together, whether the next row is one of the first list
abbrev pub is_own_next : ℕ → List Row → List Row → Bool
is_own_next key [] more = false
is_own_next key (row ∷ rows) [] = true
is_own_next key (row ∷ rows) (other ∷ more) = cell_le (cell_at row key) (cell_at other key)
