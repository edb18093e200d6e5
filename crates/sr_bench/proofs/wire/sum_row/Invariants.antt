use Rattle.std.proofs.Common.{length}
use Rattle.sr_bench.proofs.wire.sum_row.Given as goal

abbrev pub decreases-loop-cell : goal.decreases-loop-cell
decreases-loop-cell l = length l.row
