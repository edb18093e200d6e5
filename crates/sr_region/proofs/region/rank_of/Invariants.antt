use Rattle.std.proofs.Common.{◌≡◌, ◌≤◌}
use Rattle.sr_region.specs.Regions.{rank}
use Rattle.sr_region.proofs.region.rank_of.Given as goal

abbrev pub invariant-loop-c : goal.invariant-loop-c
invariant-loop-c l = record { same : l.place ≡ rank l.attrs l.c; within : l.place ≤ l.c }
