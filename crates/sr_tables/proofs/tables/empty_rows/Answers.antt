use Rattle.sr_tables.proofs.ByTable.{empty-next}
use Rattle.sr_tables.proofs.tables.empty_rows.Goals as goal

pub loop-table-preserved : goal.loop-table-preserved
loop-table-preserved c =
    empty-next c.args.tables.now c.loop-table.table-index c.table-item.result c.loop-table.all.items c.empty.result c.push.new.self.items c.loop-table-test.true c.table-item.is c.loop-table.invariant c.empty.ensures.keyed c.empty.ensures.none c.in_ok-push.ensures.items
