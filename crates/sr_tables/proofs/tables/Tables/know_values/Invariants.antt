use Rattle.std.proofs.Common.{◌≡◌, drop}
use Rattle.std.specs.List.{list_all}
use Rattle.sr_cell.specs.Columns.{are_values}
use Rattle.sr_tables.specs.Stored.{rows_in}
use Rattle.sr_tables.proofs.tables.Tables.know_values.Given as goal

abbrev pub invariant-loop-rows : goal.invariant-loop-rows
invariant-loop-rows l = list_all (list_all are_values) (rows_in (drop l.rows-index l.rows-items)) ≡ list_all (list_all are_values) (rows_in l.rows-items)
