use Rattle.std.proofs.Common.{◌≡◌, drop}
use Rattle.sr_cell.specs.Columns.{are_values}
use Rattle.sr_client.proofs.values.know_row.Given as goal

abbrev pub invariant-loop-cell : goal.invariant-loop-cell
invariant-loop-cell l = are_values (drop l.cell-index l.cell-items) ≡ are_values l.cell-items
