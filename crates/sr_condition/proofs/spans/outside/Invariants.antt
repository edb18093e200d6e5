use Rattle.std.proofs.Common.{take, ◌+◌, false, ◌∷◌}
use Rattle.sr_cell.specs.declared.cell.Cell.TheVariants.{Null as NullCell}
use Rattle.sr_model.specs.Conditions.{OneOf}
use Rattle.sr_condition.specs.Ranges.{says_test, AreApart}
use Rattle.sr_condition.proofs.Runs.{sides}
use Rattle.sr_condition.proofs.spans.outside.Given as goal

abbrev pub invariant-loop-value : goal.invariant-loop-value
invariant-loop-value l =
    AreApart l.column (says_test false (OneOf (take l.value-index l.values))) (l.value-index + 1) (NullCell ∷ sides (take l.value-index l.values)) l.spans
