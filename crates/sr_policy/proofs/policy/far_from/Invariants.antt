use Rattle.std.proofs.Common.{◌≡◌, drop}
use Rattle.sr_policy.specs.Order.{far_from}
use Rattle.sr_policy.proofs.policy.far_from.Given as goal

abbrev pub invariant-loop-part : goal.invariant-loop-part
invariant-loop-part l = far_from l.last l.class ≡ far_from (drop l.part-index l.last) l.class
