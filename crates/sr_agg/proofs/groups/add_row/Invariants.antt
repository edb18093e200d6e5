use Rattle.std.proofs.Common.{◌≡◌, ◌++◌, map, take, drop}
use Rattle.sr_agg.specs.Tallies.{with_row}
use Rattle.sr_agg.proofs.groups.add_row.Given as goal

abbrev pub invariant-loop-tally : goal.invariant-loop-tally
invariant-loop-tally l = l.tallies ≡ map (λ tally. with_row tally l.row) (take l.tally-index l.fn.tallies) ++ drop l.tally-index l.fn.tallies
