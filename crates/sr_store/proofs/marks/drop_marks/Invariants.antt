use Rattle.std.proofs.Common.{◌≡◌, ◌++◌, map}
use Rattle.std.specs.Vec.Iter.{into_iter_items}
use Rattle.sr_store.specs.Stores.{drop_of}
use Rattle.sr_store.proofs.marks.drop_marks.Given as goal

abbrev pub invariant-loop-region : goal.invariant-loop-region
invariant-loop-region l = l.all ++ map (drop_of l.cause) (into_iter_items l.region-iterator) ≡ l.fn.marks ++ map (drop_of l.cause) l.fn.regions
