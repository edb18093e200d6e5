use Rattle.std.proofs.Common.{◌≡◌, drop}
use Rattle.std.specs.Prelude.{not}
use Rattle.std.specs.List.{list_all}
use Rattle.sr_cell.specs.declared.table.Column.{Column}
use Rattle.sr_server.proofs.misfit.has_no_nullable.Given as goal

abbrev pub invariant-loop-column : goal.invariant-loop-column
invariant-loop-column l = list_all (λ (column : Column). not column.nullable) l.table.columns ≡ list_all (λ (column : Column). not column.nullable) (drop l.column-index l.table.columns)
