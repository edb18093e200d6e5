use Rattle.std.proofs.Common.{◌≡◌, true}
use Rattle.std.specs.Vec.Iter.{into_iter_items}
use Rattle.sr_store.specs.Classes.{ascends}
use Rattle.sr_store.specs.Renewing.{with_regions}
use Rattle.sr_store.specs.Making.{CanJoin}
use Rattle.sr_store.proofs.add.add_all.Given as goal

abbrev pub invariant-loop-region : goal.invariant-loop-region
invariant-loop-region l = record {
  same : with_regions l.regions (into_iter_items l.region-iterator) ≡ with_regions l.initial.regions l.fn.more;
  order : ascends l.regions ≡ true;
  join : CanJoin l.regions (into_iter_items l.region-iterator);
}
