use Rattle.std.proofs.Common.{◌≡◌, drop, ◌++◌}
use Rattle.sr_union.specs.Free.{free_all}
use Rattle.sr_union.proofs.tidy.free_all.Given as goal

abbrev pub invariant-loop-rect : goal.invariant-loop-rect
invariant-loop-rect l = l.freed ++ free_all l.column (drop l.rect-index l.rect-items) ≡ free_all l.column l.rect-items
