use Rattle.std.proofs.Common.{◌≡◌, take}
use Rattle.sr_agg.specs.Kept.{entries_seen}
use Rattle.sr_agg.specs.Tallies.{grouped}
use Rattle.sr_agg.proofs.groups.grouped.Given as goal

abbrev pub invariant-loop-i : goal.invariant-loop-i
invariant-loop-i l = entries_seen l.groups.entries ≡ grouped l.count l.items (take l.i l.rows)
