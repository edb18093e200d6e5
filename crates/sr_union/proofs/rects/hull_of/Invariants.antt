use Rattle.std.proofs.Common.{◌≡◌, true, take}
use Rattle.std.specs.List.{list_all}
use Rattle.sr_union.specs.Hulls.{in_hull}
use Rattle.sr_union.proofs.rects.hull_of.Given as goal

abbrev pub invariant-loop-rect : goal.invariant-loop-rect
invariant-loop-rect l = list_all (in_hull l.hull) (take l.rect-index l.rects) ≡ true
