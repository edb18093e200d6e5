use Rattle.std.proofs.Common.{◌≡◌, ◌++◌, map, drop}
use Rattle.sr_store.specs.Answered.{held_of}
use Rattle.sr_store.proofs.marks.held_marks.Given as goal

abbrev pub invariant-loop-arrival : goal.invariant-loop-arrival
invariant-loop-arrival l = l.marks ++ map held_of (drop l.arrival-index l.arrivals) ≡ map held_of l.arrivals
