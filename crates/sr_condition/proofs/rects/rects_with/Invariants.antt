use Rattle.std.proofs.Common.{◌≡◌, take}
use Rattle.std.specs.Prelude.{map}
use Rattle.sr_condition.specs.Said.{rect_with}
use Rattle.sr_condition.proofs.rects.rects_with.Given as goal

abbrev pub invariant-loop-span : goal.invariant-loop-span
invariant-loop-span l = l.rects ≡ map (rect_with l.columns l.column) (take l.span-index l.span-items)
