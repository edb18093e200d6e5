use Rattle.std.proofs.Common.{◌≡◌, length}
use Rattle.sr_agg.specs.Statement.{up_to_end}
use Rattle.sr_agg.proofs.read.up_to_end.Given as goal

abbrev pub invariant-more : goal.invariant-more
invariant-more l = up_to_end l.fn.cursor ≡ up_to_end l.cursor

abbrev pub decreases-more : goal.decreases-more
decreases-more l = length l.cursor
