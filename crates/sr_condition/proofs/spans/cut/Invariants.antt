use Rattle.std.proofs.Common.{◌≡◌, ◌++◌, drop}
use Rattle.std.specs.Prelude.{flat_map}
use Rattle.sr_condition.specs.Ranges.{beside}
use Rattle.sr_condition.proofs.spans.cut.Given as goal

abbrev pub invariant-loop-span : goal.invariant-loop-span
invariant-loop-span l = l.left ++ flat_map (beside l.column l.part) (drop l.span-index l.span-items) ≡ flat_map (beside l.column l.part) l.span-items
