use Rattle.std.proofs.Common.{◌≡◌, take, ◌≤◌, length}
use Rattle.sr_union.specs.Pieces.{minus_all}
use Rattle.sr_union.proofs.minus.cut_all.Given as goal

abbrev pub invariant-loop-other : goal.invariant-loop-other
invariant-loop-other l = (l.left ≡ minus_all l.columns l.fn.rects (take l.other-index l.other-items)) × (length l.left ≤ l.limit)
