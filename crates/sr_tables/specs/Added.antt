-- The changes that an INSERT makes.
use Rattle.std.specs.Prelude.{ℕ, Bool, not, List, map, None, Some}
use Rattle.std.specs.List.{list_any}
use Rattle.sr_cell.specs.declared.change.Change.{Change}
use Rattle.sr_cell.specs.Cells.{Row, cell_at, cell_eq}

-- a row that was not there before, in table number t
abbrev pub added_row : ℕ → ℕ → Row → Change
added_row t key row = record { table = t; key = cell_at row key; before = None; after = Some row }

-- a change for each row
abbrev pub added_rows : ℕ → ℕ → List Row → List Change
added_rows t key rows = map (added_row t key) rows

-- a change is of the row's key
abbrev pub is_changed : ℕ → List Change → Row → Bool
is_changed key changes row = list_any (λ c. cell_eq (cell_at row key) c.key) changes

abbrev pub is_unchanged : ℕ → List Change → Row → Bool
is_unchanged key changes row = not (is_changed key changes row)
