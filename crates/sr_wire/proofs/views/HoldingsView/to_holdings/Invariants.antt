use Rattle.std.proofs.Common.{◌≡◌, ◌++◌, length}
use Rattle.sr_wire.proofs.views.HoldingsView.to_holdings.Given as goal

abbrev pub invariant-loop-holding : goal.invariant-loop-holding
invariant-loop-holding l = l.holdings ++ l.self ≡ l.fn.self

abbrev pub decreases-loop-holding : goal.decreases-loop-holding
decreases-loop-holding l = length l.self
