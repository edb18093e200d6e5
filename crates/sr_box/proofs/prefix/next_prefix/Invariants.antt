use Rattle.std.proofs.Common.{◌≡◌, ◌≤◌, drop, length}
use Rattle.std.specs.Prelude.{None}
use Rattle.sr_box.specs.Prefixes.{next_prefix}
use Rattle.sr_box.proofs.prefix.next_prefix.Given as goal

abbrev pub invariant-loop-end : goal.invariant-loop-end
invariant-loop-end l = (l.end ≤ length l.prefix) × (next_prefix (drop l.end l.prefix) ≡ None)

abbrev pub decreases-loop-end : goal.decreases-loop-end
decreases-loop-end l = l.end
