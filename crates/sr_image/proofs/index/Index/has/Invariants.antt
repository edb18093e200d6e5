use Rattle.std.proofs.Common.{◌≡◌, ◌-◌, length, drop}
use Rattle.std.specs.List.{list_any}
use Rattle.sr_image.specs.Index.{found_at}
use Rattle.sr_image.proofs.index.Index.has.Given as goal

abbrev pub invariant-loop-at : goal.invariant-loop-at
invariant-loop-at l = list_any (found_at l.sought l.rects) l.order ≡ list_any (found_at l.sought l.rects) (drop l.at l.order)

abbrev pub decreases-loop-at : goal.decreases-loop-at
decreases-loop-at l = length l.order - l.at
