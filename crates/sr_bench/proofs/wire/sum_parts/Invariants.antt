use Rattle.std.proofs.Common.{length}
use Rattle.sr_bench.proofs.wire.sum_parts.Given as goal

abbrev pub decreases-loop-part : goal.decreases-loop-part
decreases-loop-part l = length l.parts
