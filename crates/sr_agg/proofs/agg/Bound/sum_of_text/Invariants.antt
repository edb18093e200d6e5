use Rattle.std.proofs.Common.{◌≡◌, drop}
use Rattle.sr_agg.specs.Seen.{scope_seen}
use Rattle.sr_agg.specs.Starting.{sum_of_text}
use Rattle.sr_agg.proofs.agg.Bound.sum_of_text.Given as goal

abbrev pub invariant-loop-item : goal.invariant-loop-item
invariant-loop-item l =
    sum_of_text l.self.schema.now (scope_seen l.self) l.items ≡ sum_of_text l.self.schema.now (scope_seen l.self) (drop l.item-index l.items)
