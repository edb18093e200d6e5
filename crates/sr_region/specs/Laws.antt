-- What holds of every row of some columns.
use Rattle.std.specs.Prelude.{ℕ, true, ◌≡◌}
use Rattle.sr_cell.specs.Attrs.{has_column, project}
use Rattle.sr_cell.specs.Cells.{Row, cell_at}
use Rattle.sr_region.specs.Regions.{rank}

-- the cell of a column of attrs stands at its rank among the cells of the columns of attrs
abbrev pub CellsStand : Type 0
CellsStand = (attrs column : ℕ) (row : Row) → has_column attrs column ≡ true → cell_at (project attrs row) (rank attrs column) ≡ cell_at row column
