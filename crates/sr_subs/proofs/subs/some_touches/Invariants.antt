use Rattle.std.proofs.Common.{◌≡◌, drop}
use Rattle.sr_subs.specs.Subscription.{touches}
use Rattle.sr_subs.proofs.subs.some_touches.Given as goal

abbrev pub invariant-loop-holding : goal.invariant-loop-holding
invariant-loop-holding l = touches l.holdings l.change ≡ touches (drop l.holding-index l.holdings) l.change
