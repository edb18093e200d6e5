use Rattle.std.proofs.Common.{◌≡◌, map, take}
use Rattle.sr_agg.specs.Tallies.{first_tally}
use Rattle.sr_agg.proofs.groups.first_tallies.Given as goal

abbrev pub invariant-loop-item : goal.invariant-loop-item
invariant-loop-item l = l.tallies.items ≡ map first_tally (take l.item-index l.items)
