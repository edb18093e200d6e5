use Rattle.std.proofs.Common.{◌≡◌, ◌+◌, true, length}
use Rattle.sr_model.specs.SortedRows.{ascend}
use Rattle.sr_store.specs.Making.{shares_key}
use Rattle.sr_store.proofs.give_way.share_near.Given as goal

abbrev pub invariant-loop-row : goal.invariant-loop-row
invariant-loop-row l = record {
  left : shares_key l.place l.others l.rows ≡ shares_key l.fn.place l.fn.others l.fn.rows;
  rows : ascend l.place l.rows ≡ true;
  others : ascend l.place l.others ≡ true;
}

abbrev pub decreases-loop-row : goal.decreases-loop-row
decreases-loop-row l = length l.rows + length l.others
