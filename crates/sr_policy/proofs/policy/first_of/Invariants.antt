use Rattle.std.proofs.Common.{◌<◌, take}
use Rattle.sr_policy.specs.Order.{IsVictim}
use Rattle.sr_policy.proofs.policy.first_of.Given as goal

abbrev pub invariant-loop-i : goal.invariant-loop-i
invariant-loop-i l = record {
  behind : l.best < l.i;
  first : IsVictim l.policy l.last (take l.i l.classes) l.best;
}
