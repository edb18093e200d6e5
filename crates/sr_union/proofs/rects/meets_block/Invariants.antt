use Rattle.std.proofs.Common.{◌≡◌, false, take}
use Rattle.sr_union.proofs.Blocks.{some_meet}
use Rattle.sr_union.proofs.rects.meets_block.Given as goal

abbrev pub invariant-loop-rect : goal.invariant-loop-rect
invariant-loop-rect l = some_meet l.block (take l.rect-index l.rects) ≡ false
