-- Rows that are found rect by rect.
use Rattle.std.specs.Prelude.{Bool, false, Option, Some, None}
use Rattle.sr_cell.specs.declared.cell.Cell.{Cell}
use Rattle.sr_cell.specs.Cells.{cell_le}

-- at most the last cell, if there is one
abbrev pub is_at_last : Option Cell → Cell → Bool
is_at_last None v = false
is_at_last (Some last) v = cell_le v last
