use Rattle.std.proofs.Common.{◌≡◌, ◌++◌, length}
use Rattle.sr_bytes.proofs.views.RowsView.to_rows.Given as goal

abbrev pub invariant-loop-row : goal.invariant-loop-row
invariant-loop-row l = l.rows ++ l.self ≡ l.fn.self

abbrev pub decreases-loop-row : goal.decreases-loop-row
decreases-loop-row l = length l.self
