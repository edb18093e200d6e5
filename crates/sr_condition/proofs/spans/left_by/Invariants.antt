use Rattle.std.proofs.Common.{List, ◌∷◌, take, ◌+◌}
use Rattle.std.specs.List.{AllByRecursion}
use Rattle.sr_cell.specs.declared.cell.Cell.{Cell}
use Rattle.sr_cell.specs.declared.cell.Cell.TheVariants.{Null as NullCell}
use Rattle.sr_condition.specs.Ranges.{is_left, EndsAt, AreApart}
use Rattle.sr_condition.proofs.spans.left_by.Given as goal

abbrev pub invariant-loop-span : goal.invariant-loop-span
invariant-loop-span l =
    (ends : List Cell) → AllByRecursion (EndsAt l.column (NullCell ∷ ends)) l.taken → AreApart l.column (is_left (take l.span-index l.taken)) (l.span-index + 1) (NullCell ∷ ends) l.spans
