use Rattle.std.proofs.Common.{length}
use Rattle.sr_bench.proofs.wire.sum_rows.Given as goal

abbrev pub decreases-loop-row : goal.decreases-loop-row
decreases-loop-row l = length l.rows
