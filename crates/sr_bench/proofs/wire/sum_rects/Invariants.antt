use Rattle.std.proofs.Common.{length}
use Rattle.sr_bench.proofs.wire.sum_rects.Given as goal

abbrev pub decreases-loop-rect : goal.decreases-loop-rect
decreases-loop-rect l = length l.rects
