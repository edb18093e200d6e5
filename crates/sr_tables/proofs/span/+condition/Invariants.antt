use Rattle.std.proofs.Common.{◌≡◌, ℕ, true, drop}
use Rattle.sr_cell.specs.declared.cell.Cell.{Cell}
use Rattle.sr_model.specs.Sides.{all_true}
use Rattle.sr_query.specs.Meant.{members}
use Rattle.sr_tables.proofs.span.+condition.Given as goal

abbrev pub invariant-first_low-loop-condition : goal.invariant-first_low-loop-condition
invariant-first_low-loop-condition l = (value : ℕ → Cell) → all_true value (members l.all) ≡ true → all_true value (members (drop l.condition-index l.all)) ≡ true
