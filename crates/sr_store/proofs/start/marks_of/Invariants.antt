use Rattle.std.proofs.Common.{◌≡◌, ◌++◌, map, drop}
use Rattle.sr_store.specs.Starting.{mark_of}
use Rattle.sr_store.proofs.start.marks_of.Given as goal

abbrev pub invariant-loop-part : goal.invariant-loop-part
invariant-loop-part l = l.marks ++ map mark_of (drop l.part-index l.kept) ≡ map mark_of l.kept
