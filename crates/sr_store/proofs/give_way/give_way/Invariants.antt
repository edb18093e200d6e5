use Rattle.std.proofs.Common.{◌≡◌, drop}
use Rattle.std.specs.List.{All}
use Rattle.sr_store.specs.Answered.{gives_way}
use Rattle.sr_store.specs.Making.{IsByKey, LiesBy}
use Rattle.sr_store.proofs.give_way.give_way.Given as goal

abbrev pub invariant-loop-arrival : goal.invariant-loop-arrival
invariant-loop-arrival l = record {
  left : gives_way (drop l.arrival-index l.arrivals) l.region ≡ gives_way l.arrivals l.fn.region;
  ascending : IsByKey l.region;
  lie : All (LiesBy l.region) l.arrivals;
}
