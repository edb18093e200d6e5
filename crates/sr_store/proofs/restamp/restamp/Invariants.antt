use Rattle.std.proofs.Common.{List}
use Rattle.std.specs.List.{All}
use Rattle.std.specs.Vec.Iter.{into_iter_items}
use Rattle.sr_region.specs.declared.region.Region.{Region}
use Rattle.sr_store.specs.declared.store.Arrival.{Arrival}
use Rattle.sr_store.specs.Stores.{IsOfSchema}
use Rattle.sr_store.specs.Renewing.{IsRestamped}
use Rattle.sr_store.specs.Making.{ComesFrom}
use Rattle.sr_store.proofs.Making.{Completes}
use Rattle.sr_store.proofs.restamp.restamp.Given as goal

abbrev pub invariant-loop-region : goal.invariant-loop-region
invariant-loop-region l = record {
  made : Completes (IsRestamped l.schema l.number l.parts) l.fn.regions l.pieces (into_iter_items l.region-iterator);
  each : All (IsOfSchema l.schema) (into_iter_items l.region-iterator);
  come : (old : List Region) (arrivals : List Arrival) → All (ComesFrom l.schema old l.parts arrivals) l.fn.regions
      → All (ComesFrom l.schema old l.parts arrivals) (into_iter_items l.region-iterator);
}
