use Rattle.std.proofs.Common.{◌≡◌, ◌++◌, drop}
use Rattle.std.specs.Prelude.{IsTrue}
use Rattle.sr_query.specs.Writes.{numbers_from}
use Rattle.sr_bind.specs.Written.{are_columns}
use Rattle.sr_bind.proofs.inserts.all_columns.Given as goal

abbrev pub invariant-loop-column : goal.invariant-loop-column
invariant-loop-column l = record {
  all : l.columns ++ numbers_from l.column (drop l.column l.table.columns) ≡ numbers_from 0 l.table.columns;
  within : IsTrue (are_columns l.table l.columns);
}
