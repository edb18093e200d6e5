use Rattle.std.proofs.Common.{◌≡◌, drop}
use Rattle.sr_cell.specs.Columns.{are_values}
use Rattle.sr_keyed.proofs.keyed.know_values.Given as goal

abbrev pub invariant-loop-cell : goal.invariant-loop-cell
invariant-loop-cell l = are_values (drop l.cell-index l.row) ≡ are_values l.row
