use Rattle.std.proofs.Common.{◌≡◌, map, take}
use Rattle.sr_agg.specs.Tallies.{told_by}
use Rattle.sr_agg.proofs.groups.told_of.Given as goal

abbrev pub invariant-loop-tally : goal.invariant-loop-tally
invariant-loop-tally l = l.row ≡ map (told_by l.key) (take l.tally-index l.tallies)
