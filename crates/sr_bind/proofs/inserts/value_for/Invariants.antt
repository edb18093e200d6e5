use Rattle.std.proofs.Common.{◌≡◌, drop}
use Rattle.sr_query.specs.Writes.{value_for}
use Rattle.sr_bind.specs.Written.{cells_of}
use Rattle.sr_bind.proofs.inserts.value_for.Given as goal

abbrev pub invariant-loop-i : goal.invariant-loop-i
invariant-loop-i l =
    value_for l.column l.columns (cells_of l.literals) ≡ value_for l.column (drop l.i l.columns) (cells_of (drop l.i l.literals))
