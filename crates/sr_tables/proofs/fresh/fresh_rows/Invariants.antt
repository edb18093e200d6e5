use Rattle.std.proofs.Common.{◌≡◌, ◌+◌, true, [], length, ◌==◌}
use Rattle.std.specs.List.{list_all}
use Rattle.std.specs.Vec.Iter.{into_iter_items}
use Rattle.sr_model.specs.SortedRows.{with_rows}
use Rattle.sr_tables.specs.Stored.{IsKeyed}
use Rattle.sr_tables.specs.Inserts.{fault_from}
use Rattle.sr_tables.proofs.fresh.fresh_rows.Given as goal

abbrev pub invariant-loop-row : goal.invariant-loop-row
invariant-loop-row l = record {
  keyed : IsKeyed l.table l.fresh;
  same : with_rows l.table.key l.fresh.rows (into_iter_items l.row-iterator) ≡ with_rows l.table.key [] l.fn.more;
  fault : fault_from l.table 0 l.rows.rows l.fn.more ≡ fault_from l.table l.number (with_rows l.table.key l.rows.rows l.fresh.rows) (into_iter_items l.row-iterator);
  widths : list_all (λ row. length row == length l.table.columns) (into_iter_items l.row-iterator) ≡ true;
  count : l.number + length (into_iter_items l.row-iterator) ≡ length l.fn.more;
}
