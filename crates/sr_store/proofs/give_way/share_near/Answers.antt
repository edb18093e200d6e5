use Rattle.std.proofs.Common.{rules, ◌≡◌, false, ◌∷◌}
use Rattle.sr_cell.specs.Cells.{cell_at, cell_le}
use Rattle.sr_store.proofs.Sharing.{walk-ends, walk-row, walk-other, walk-tail}
use Rattle.sr_store.proofs.give_way.share_near.Goals as goal

pub returns-in_default-split_first : goal.returns-in_default-split_first
returns-in_default-split_first c = walk-ends c.args.place c.loop-row.rows.now c.loop-row.others.now _ (search rules) c.loop-row.invariant.left

pub loop-row-preserved-then-not-is_row_at_most : goal.loop-row-preserved-then-not-is_row_at_most
loop-row-preserved-then-not-is_row_at_most c =
    let row = c.in-Some.row.now in
    let rows : c.loop-row.rows.now ≡ row ∷ c.in-Some.behind.now = search rules in
    let others : c.loop-row.others.now ≡ c.in-Some-split_first.other.now ∷ c.in-Some-split_first.after.now = search rules in
    let below : cell_le (cell_at c.in-Some-split_first.other.now c.args.place) (cell_at row c.args.place) ≡ false = search rules in
    record {
      left = walk-row c.args.place _ _ _ _ _ _ _ rows others c.loop-row.invariant.others below c.loop-row.invariant.left;
      rows = walk-tail c.args.place _ _ _ rows c.loop-row.invariant.rows;
      others = c.loop-row.invariant.others;
    }

pub loop-row-preserved : goal.loop-row-preserved
loop-row-preserved c =
    let row = c.in-Some.row.now in
    let rows : c.loop-row.rows.now ≡ row ∷ c.in-Some.behind.now = search rules in
    let others : c.loop-row.others.now ≡ c.in-Some-split_first.other.now ∷ c.in-Some-split_first.after.now = search rules in
    let below : cell_le (cell_at row c.args.place) (cell_at c.in-Some-split_first.other.now c.args.place) ≡ false = search rules in
    record {
      left = walk-other c.args.place _ _ _ _ _ _ _ rows others c.loop-row.invariant.rows below c.loop-row.invariant.left;
      rows = c.loop-row.invariant.rows;
      others = walk-tail c.args.place _ _ _ others c.loop-row.invariant.others;
    }
