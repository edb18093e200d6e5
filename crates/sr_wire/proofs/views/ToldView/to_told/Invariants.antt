use Rattle.std.proofs.Common.{◌≡◌, ◌++◌, length}
use Rattle.sr_wire.proofs.views.ToldView.to_told.Given as goal

abbrev pub invariant-loop-tell : goal.invariant-loop-tell
invariant-loop-tell l = l.told ++ l.self ≡ l.fn.self

abbrev pub decreases-loop-tell : goal.decreases-loop-tell
decreases-loop-tell l = length l.self
