use Rattle.std.proofs.Common.{◌++◌}
use Rattle.std.specs.Vec.Iter.{into_iter_items}
use Rattle.sr_union.specs.Joined.{IsJoined}
use Rattle.sr_union.proofs.join.with_all.Given as goal

abbrev pub invariant-loop-rect : goal.invariant-loop-rect
invariant-loop-rect l = IsJoined l.columns (l.fn.rects ++ l.fn.more) (l.joined ++ into_iter_items l.rect-iterator)
