use Rattle.std.proofs.Common.{◌≡◌, ◌++◌, map, take, drop}
use Rattle.sr_store.specs.Answered.{gives_way}
use Rattle.sr_store.proofs.give_way.give_way_each.Given as goal

abbrev pub invariant-loop-region : goal.invariant-loop-region
invariant-loop-region l = l.regions ≡ map (gives_way l.arrivals) (take l.region-index l.fn.regions) ++ drop l.region-index l.fn.regions
