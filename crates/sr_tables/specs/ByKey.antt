-- Rows by their keys.
use Rattle.std.specs.Prelude.{ℕ, List, [], ◌∷◌, ◌++◌, map, option_to_list}
use Rattle.sr_cell.specs.declared.cell.Cell.{Cell}
use Rattle.sr_cell.specs.Cells.{Row, cell_at}
use Rattle.sr_model.specs.Changes.{row_with}

abbrev pub keys_of : ℕ → List Row → List Cell
keys_of key rows = map (λ row. cell_at row key) rows

-- of these rows those that have the keys, key by key
abbrev pub rows_with : ℕ → List Cell → List Row → List Row
rows_with key [] rows = []
rows_with key (k ∷ keys) rows = option_to_list (row_with key k rows) ++ rows_with key keys rows
