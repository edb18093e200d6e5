use Rattle.std.proofs.Common.{arith}
use Rattle.sr_policy.proofs.Distances.{distance_behind}
use Rattle.sr_policy.proofs.policy.distance.Goals as goal

pub returns : goal.returns
returns c = let behind = distance_behind c.args.one.now c.args.other.now c.loop-i.i (omega arith) in omega arith
