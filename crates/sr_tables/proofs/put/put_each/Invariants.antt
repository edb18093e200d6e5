use Rattle.std.proofs.Common.{◌≡◌, true}
use Rattle.std.specs.Prelude.{filter}
use Rattle.std.specs.List.{list_all}
use Rattle.std.specs.Vec.Iter.{into_iter_items}
use Rattle.sr_cell.specs.Columns.{fits_columns}
use Rattle.sr_model.specs.SortedRows.{with_rows}
use Rattle.sr_tables.specs.Stored.{IsKeyed}
use Rattle.sr_tables.specs.Inserts.{are_apart}
use Rattle.sr_tables.specs.Added.{is_changed, is_unchanged}
use Rattle.sr_tables.proofs.put.put_each.Given as goal

abbrev pub invariant-loop-row : goal.invariant-loop-row
invariant-loop-row l = record {
  keyed : IsKeyed l.table l.rows;
  same : with_rows l.table.key l.rows.rows (into_iter_items l.row-iterator) ≡ with_rows l.table.key l.initial.rows.rows l.fn.added;
  fits : list_all (fits_columns l.table.columns) (into_iter_items l.row-iterator) ≡ true;
  apart : are_apart l.table.key l.rows.rows (into_iter_items l.row-iterator) ≡ true;
  changed : list_all (is_changed l.table.key l.changes) (into_iter_items l.row-iterator) ≡ true;
  others : filter (is_unchanged l.table.key l.changes) l.rows.rows ≡ l.initial.rows.rows;
}
