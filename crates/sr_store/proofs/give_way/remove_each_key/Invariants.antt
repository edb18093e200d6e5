use Rattle.std.proofs.Common.{◌≡◌, true, drop}
use Rattle.sr_model.specs.SortedRows.{ascend}
use Rattle.sr_store.specs.Making.{without_keys}
use Rattle.sr_store.proofs.give_way.remove_each_key.Given as goal

abbrev pub invariant-loop-row : goal.invariant-loop-row
invariant-loop-row l = record {
  left : without_keys l.place (drop l.row-index l.others) l.rows ≡ without_keys l.place l.others l.fn.rows;
  ascending : ascend l.place l.rows ≡ true;
}
