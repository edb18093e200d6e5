use Rattle.std.proofs.Common.{◌≡◌, ℕ, drop}
use Rattle.std.specs.Prelude.{◌||◌}
use Rattle.sr_cell.specs.Attrs.{has_column}
use Rattle.sr_trim.specs.Left.{is_constrained}
use Rattle.sr_trim.proofs.trim.shipped.Given as goal

abbrev pub invariant-loop-rect : goal.invariant-loop-rect
invariant-loop-rect l = (k : ℕ) → (has_column l.attrs k || is_constrained k (drop l.rect-index l.rect-items)) ≡ (has_column l.fn.need k || is_constrained k l.rect-items)
