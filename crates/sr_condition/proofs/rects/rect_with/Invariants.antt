use Rattle.std.proofs.Common.{◌≡◌, take}
use Rattle.sr_condition.specs.Said.{rect_with}
use Rattle.sr_condition.proofs.rects.rect_with.Given as goal

abbrev pub invariant-loop-i : goal.invariant-loop-i
invariant-loop-i l = l.rect ≡ take l.i (rect_with l.columns l.column l.span)
