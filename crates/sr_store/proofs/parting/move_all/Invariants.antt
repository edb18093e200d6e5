use Rattle.std.proofs.Common.{◌≡◌, ◌+◌, ◌++◌, true, false, length, drop}
use Rattle.std.specs.Vec.Iter.{into_iter_items}
use Rattle.sr_store.specs.Answered.{flagged}
use Rattle.sr_store.proofs.parting.move_all.Given as goal

abbrev pub invariant-loop-region : goal.invariant-loop-region
invariant-loop-region l = record {
  plain : l.both.plain ++ flagged false (drop l.i l.flags) (into_iter_items l.region-iterator) ≡ flagged false l.flags l.fn.regions;
  flagged : l.both.flagged ++ flagged true (drop l.i l.flags) (into_iter_items l.region-iterator) ≡ flagged true l.flags l.fn.regions;
  count : l.i + length (into_iter_items l.region-iterator) ≡ length l.flags;
}
