use Rattle.std.proofs.Common.{◌≡◌, ◌++◌, true, false, take, drop}
use Rattle.sr_store.specs.Answered.{flagged}
use Rattle.sr_store.proofs.parting.take_out.Given as goal

abbrev pub invariant-loop-i : goal.invariant-loop-i
invariant-loop-i l = record {
  plain : l.plain ≡ take l.i l.fn.regions ++ flagged false (drop l.i l.flags) (drop l.i l.fn.regions);
  flagged : l.flagged ≡ flagged true (drop l.i l.flags) (drop l.i l.fn.regions);
}
