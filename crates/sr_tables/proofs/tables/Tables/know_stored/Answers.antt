use Rattle.std.proofs.Common.{subst, arith}
use Rattle.sr_tables.proofs.ByTable.{AllAscend, ascend-next, ascend-all, all-stored}
use Rattle.sr_tables.proofs.tables.Tables.know_stored.Goals as goal

pub loop-rows-init : goal.loop-rows-init
loop-rows-init c = tt

pub loop-rows-preserved : goal.loop-rows-preserved
loop-rows-preserved c =
    ascend-next c.as_slice-rows-items.result.now c.loop-rows.rows-index c.rows-item.result c.loop-rows-test.true c.rows-item.is c.loop-rows.invariant c.know_ascending.ensures

pub returns-clause-tables : goal.returns-clause-tables
returns-clause-tables c = rw (← c.self.view_is) c.self.invariant.0

pub returns-clause-rows : goal.returns-clause-rows
returns-clause-rows c =
    let up : AllAscend c.as_slice-rows-items.result.now = ascend-all c.as_slice-rows-items.result.now c.loop-rows.rows-index (omega (arith, c.loop-rows-test.false)) c.loop-rows.invariant in
    rw (← c.self.view_is) (all-stored _ _ c.self.invariant.1 (subst AllAscend c.as_slice-rows-items.ensures.value up) c.self.invariant.2)
