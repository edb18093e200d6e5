use Rattle.std.proofs.Common.{◌≡◌, length}
use Rattle.sr_union.proofs.Blocks.{some_meet}
use Rattle.sr_union.proofs.rects.lists_meet.Given as goal

abbrev pub invariant-loop-rest : goal.invariant-loop-rest
invariant-loop-rest l = some_meet l.rest l.rects ≡ some_meet l.others l.rects

abbrev pub decreases-loop-rest : goal.decreases-loop-rest
decreases-loop-rest l = length l.rest
