use Rattle.std.proofs.Common.{◌≡◌, ◌++◌, map}
use Rattle.sr_agg.specs.Kept.{entries_seen}
use Rattle.sr_agg.specs.Tallies.{told_by}
use Rattle.sr_agg.proofs.groups.told.Given as goal

abbrev pub invariant-loop-key : goal.invariant-loop-key
invariant-loop-key l = l.told ++ map (λ e. map (told_by e.0) e.1) (entries_seen l.key-iterator) ≡ map (λ e. map (told_by e.0) e.1) (entries_seen l.groups.entries)
