use Rattle.std.proofs.Common.{◌≡◌, ◌++◌, drop}
use Rattle.sr_union.specs.Pieces.{near}
use Rattle.sr_union.proofs.meet.copies_near.Given as goal

abbrev pub invariant-loop-rect : goal.invariant-loop-rect
invariant-loop-rect l = l.found ++ near l.others (drop l.rect-index l.rects) ≡ near l.others l.rects
