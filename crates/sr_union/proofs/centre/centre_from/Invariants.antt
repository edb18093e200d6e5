use Rattle.std.proofs.Common.{◌≡◌, ◌++◌, drop}
use Rattle.std.specs.Prelude.{map}
use Rattle.sr_union.specs.Centre.{centre_from}
use Rattle.sr_union.proofs.centre.centre_from.Given as goal

abbrev pub invariant-loop-k : goal.invariant-loop-k
invariant-loop-k l = l.sums ++ centre_from (drop l.k l.columns) (drop l.k l.first) (map (drop l.k) l.others) ≡ centre_from l.columns l.first l.others
