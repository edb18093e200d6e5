use Rattle.std.proofs.Common.{◌≡◌, drop}
use Rattle.std.specs.List.{list_all}
use Rattle.sr_cell.specs.Columns.{are_values}
use Rattle.sr_client.proofs.values.know_rows.Given as goal

abbrev pub invariant-loop-row : goal.invariant-loop-row
invariant-loop-row l = list_all are_values (drop l.row-index l.rows) ≡ list_all are_values l.rows
