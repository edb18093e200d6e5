use Rattle.std.proofs.Common.{◌≡◌, ◌*◌, true, length, drop}
use Rattle.sr_image.specs.Index.{are_under}
use Rattle.sr_image.proofs.index.hulls_of.Given as goal

abbrev pub invariant-loop-left : goal.invariant-loop-left
invariant-loop-left l = record {
  under : are_under l.rects l.size l.hulls.items l.order ≡ true;
  left : l.left ≡ drop (length l.hulls.items * l.size) l.order;
}

abbrev pub decreases-loop-left : goal.decreases-loop-left
decreases-loop-left l = length l.left
