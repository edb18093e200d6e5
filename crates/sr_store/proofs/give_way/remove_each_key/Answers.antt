use Rattle.std.proofs.lemmas.List.{drop_all}
use Rattle.sr_cell.specs.Cells.{cell_at}
use Rattle.sr_store.proofs.Removing.{keys-next, keys-last, keys-ascend}
use Rattle.sr_store.proofs.give_way.remove_each_key.Goals as goal

pub loop-row-preserved : goal.loop-row-preserved
loop-row-preserved c =
    let i = c.loop-row.row-index in
    let row = c.row-item.result in
    let next = c.remove_key_of.new.rows in
    record {
      left = keys-next c.args.place c.args.others.now i row c.loop-row.rows next _ c.loop-row-test.true c.row-item.is c.remove_key_of.ensures c.loop-row.invariant.left;
      ascending = keys-ascend c.args.place (cell_at row c.args.place) c.loop-row.rows next c.remove_key_of.ensures c.loop-row.invariant.ascending;
    }

pub returns : goal.returns
returns c = keys-last c.args.place _ c.loop-row.rows _ (drop_all c.loop-row.row-index c.args.others.now c.loop-row-test.false) c.loop-row.invariant.left
