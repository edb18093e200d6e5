use Rattle.std.proofs.Common.{length}
use Rattle.sr_bench.proofs.wire.sum_rect.Given as goal

abbrev pub decreases-loop-span : goal.decreases-loop-span
decreases-loop-span l = length l.rect
