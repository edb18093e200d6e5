use Rattle.sr_tables.proofs.ByTable.{EmptySoFar}
use Rattle.sr_tables.proofs.tables.empty_rows.Given as goal

abbrev pub invariant-loop-table : goal.invariant-loop-table
invariant-loop-table l = EmptySoFar l.tables l.table-index l.all.items
