use Rattle.std.proofs.Common.{◌≡◌, drop}
use Rattle.sr_model.specs.Statements.{bad_cell_from}
use Rattle.sr_tables.proofs.faults.bad_cell.Given as goal

abbrev pub invariant-loop-i : goal.invariant-loop-i
invariant-loop-i l = bad_cell_from 0 l.columns l.cells ≡ bad_cell_from l.i (drop l.i l.columns) (drop l.i l.cells)
