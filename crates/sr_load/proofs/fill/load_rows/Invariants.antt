use Rattle.std.proofs.Common.{◌≡◌, ◌+◌, ◌<◌, true, length}
use Rattle.std.specs.Prelude.{◌==◌}
use Rattle.std.specs.List.{list_all}
use Rattle.std.specs.Vec.Iter.{into_iter_items}
use Rattle.sr_cell.specs.Columns.{table_at}
use Rattle.sr_model.specs.Loads.{rows_loaded}
use Rattle.sr_model.specs.Queries.{rows_at}
use Rattle.sr_model.specs.Statements.{with_table}
use Rattle.sr_load.proofs.fill.load_rows.Given as goal

abbrev pub invariant-loop-row : goal.invariant-loop-row
invariant-loop-row l = record {
  same : with_table l.initial.tables.rows l.table (rows_loaded (table_at l.initial.tables.schema l.table) 1 l.fn.rows (rows_at l.initial.tables.rows l.table))
      ≡ with_table l.tables.rows l.table (rows_loaded (table_at l.initial.tables.schema l.table) (l.number + 1) (into_iter_items l.row-iterator) (rows_at l.tables.rows l.table));
  schema : l.tables.schema ≡ l.initial.tables.schema;
  there : l.table < length l.tables.rows;
  widths : list_all (λ row. length row == length (table_at l.initial.tables.schema l.table).columns) (into_iter_items l.row-iterator) ≡ true;
  count : l.number + length (into_iter_items l.row-iterator) ≡ length l.fn.rows;
}
