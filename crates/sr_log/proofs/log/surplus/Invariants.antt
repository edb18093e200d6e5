use Rattle.std.proofs.Common.{◌≡◌, ◌+◌, ◌-◌, drop, length}
use Rattle.sr_log.specs.Held.{changes_of}
use Rattle.sr_log.specs.Kept.{total, floor}
use Rattle.sr_log.proofs.log.surplus.Given as goal

abbrev pub invariant-loop-left : goal.invariant-loop-left
invariant-loop-left l =
    (l.left ≡ total (drop l.dropped (changes_of l.entries)))
    × (l.dropped + floor l.limit (drop l.dropped (changes_of l.entries)) ≡ floor l.limit (changes_of l.entries))

abbrev pub decreases-loop-left : goal.decreases-loop-left
decreases-loop-left l = length l.entries - l.dropped
