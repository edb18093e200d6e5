use Rattle.std.proofs.Common.{take}
use Rattle.sr_tables.proofs.ByTable.{AllAscend}
use Rattle.sr_tables.proofs.tables.Tables.know_stored.Given as goal

abbrev pub invariant-loop-rows : goal.invariant-loop-rows
invariant-loop-rows l = AllAscend (take l.rows-index l.rows-items)
