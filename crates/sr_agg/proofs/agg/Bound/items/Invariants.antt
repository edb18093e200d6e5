use Rattle.std.proofs.Common.{◌≡◌, map, take}
use Rattle.sr_agg.specs.Seen.{scope_seen}
use Rattle.sr_agg.specs.Starting.{item_of}
use Rattle.sr_agg.proofs.agg.Bound.items.Given as goal

abbrev pub invariant-loop-item : goal.invariant-loop-item
invariant-loop-item l = l.all ≡ map (item_of (scope_seen l.self)) (take l.item-index l.items)
