use Rattle.std.proofs.Common.{◌≡◌, drop}
use Rattle.sr_query.specs.Writes.{value_for}
use Rattle.sr_load.proofs.load.value_for.Given as goal

abbrev pub invariant-loop-i : goal.invariant-loop-i
invariant-loop-i l = value_for l.column l.columns l.cells ≡ value_for l.column (drop l.i l.columns) (drop l.i l.cells)
