use Rattle.std.proofs.Common.{◌≡◌, true, take}
use Rattle.sr_cell.specs.Cells.{Row, cell_at, cell_le}
use Rattle.sr_box.specs.Points.{in_any}
use Rattle.sr_tables.proofs.select.highest.Given as goal

abbrev pub invariant-loop-i : goal.invariant-loop-i
invariant-loop-i l = (row : Row) → in_any (take l.i l.rects) row ≡ true → cell_le (cell_at row l.column) l.greatest ≡ true
