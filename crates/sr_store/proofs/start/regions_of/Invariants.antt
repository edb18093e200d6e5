use Rattle.std.proofs.Common.{◌≡◌, ◌<◌, ◌++◌, length, map}
use Rattle.std.specs.List.{All}
use Rattle.std.specs.Vec.Iter.{into_iter_items}
use Rattle.sr_store.specs.declared.start.Kept.{Kept}
use Rattle.sr_store.specs.Starting.{region_of, regions_of}
use Rattle.sr_store.proofs.start.regions_of.Given as goal

abbrev pub invariant-loop-part : goal.invariant-loop-part
invariant-loop-part l = record {
  made : l.regions ++ regions_of l.schema (into_iter_items l.part-iterator) ≡ regions_of l.schema l.fn.kept;
  within : All (λ (k : Kept). k.table < length l.schema) (into_iter_items l.part-iterator);
}
