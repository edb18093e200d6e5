use Rattle.std.proofs.Common.{List}
use Rattle.std.specs.List.{All, AllZip}
use Rattle.std.specs.Vec.Iter.{into_iter_items}
use Rattle.sr_query.specs.declared.query.Part.{Part}
use Rattle.sr_region.specs.declared.region.Region.{Region}
use Rattle.sr_store.specs.Renewing.{IsArrived}
use Rattle.sr_store.specs.Making.{FitsSchema}
use Rattle.sr_store.proofs.Making.{Completes}
use Rattle.sr_store.proofs.Refusals.{IsCome}
use Rattle.sr_store.proofs.arrive.arrived_regions.Given as goal

abbrev pub invariant-loop-arrival : goal.invariant-loop-arrival
invariant-loop-arrival l = record {
  made : Completes (AllZip (IsArrived l.schema l.number)) l.fn.arrivals l.regions (into_iter_items l.arrival-iterator);
  fit : All (FitsSchema l.schema) (into_iter_items l.arrival-iterator);
  come : (old : List Region) (parts : List Part) → All (IsCome l.schema old parts l.fn.arrivals) (into_iter_items l.arrival-iterator);
}
