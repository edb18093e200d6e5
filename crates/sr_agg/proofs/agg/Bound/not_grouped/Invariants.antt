use Rattle.std.proofs.Common.{◌≡◌, drop}
use Rattle.sr_agg.specs.Seen.{scope_seen}
use Rattle.sr_agg.specs.Starting.{not_grouped}
use Rattle.sr_agg.proofs.agg.Bound.not_grouped.Given as goal

abbrev pub invariant-loop-item : goal.invariant-loop-item
invariant-loop-item l = not_grouped (scope_seen l.self) l.items ≡ not_grouped (scope_seen l.self) (drop l.item-index l.items)
