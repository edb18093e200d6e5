use Rattle.std.proofs.Common.{length}
use Rattle.sr_join.proofs.runs.+by_key.Given as goal

abbrev pub decreases-by_key : goal.decreases-by_key
decreases-by_key l = length l.runs.now
