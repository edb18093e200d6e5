-- Rows by key, without one.
use Rattle.std.specs.Prelude.{ℕ, not, List, filter}
use Rattle.sr_cell.specs.declared.cell.Cell.{Cell}
use Rattle.sr_cell.specs.Cells.{Row, cell_at, cell_eq}

-- the rows of other keys
abbrev pub without_key : ℕ → Cell → List Row → List Row
without_key key v rows = filter (λ row. not (cell_eq (cell_at row key) v)) rows
