use Rattle.std.proofs.Common.{◌≡◌, drop, ◌++◌}
use Rattle.sr_union.specs.Pieces.{meet_each}
use Rattle.sr_union.proofs.meet.push_meets.Given as goal

abbrev pub invariant-loop-other : goal.invariant-loop-other
invariant-loop-other l = l.both ++ meet_each l.rect (drop l.other-index l.other-items) ≡ l.fn.both ++ meet_each l.rect l.other-items
