use Rattle.std.proofs.Common.{◌≡◌, ◌+◌, ◌*◌, ◌^◌, ◌≤◌, drop}
use Rattle.sr_policy.specs.Order.{distance}
use Rattle.sr_policy.proofs.policy.distance.Given as goal

abbrev pub invariant-loop-i : goal.invariant-loop-i
invariant-loop-i l = record {
  sum : l.sum + distance (drop l.i l.one) (drop l.i l.other) ≡ distance l.one l.other;
  bound : l.sum ≤ l.i * 2 ^ 64;
}
