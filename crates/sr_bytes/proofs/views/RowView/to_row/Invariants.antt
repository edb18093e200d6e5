use Rattle.std.proofs.Common.{◌≡◌, ◌++◌, length}
use Rattle.sr_bytes.proofs.views.RowView.to_row.Given as goal

abbrev pub invariant-loop-cell : goal.invariant-loop-cell
invariant-loop-cell l = l.row ++ l.cells ≡ l.self

abbrev pub decreases-loop-cell : goal.decreases-loop-cell
decreases-loop-cell l = length l.cells
