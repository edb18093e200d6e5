use Rattle.std.proofs.Common.{[], ◌∷◌, ◌++◌, length}
use Rattle.sr_union.specs.Joined.{IsJoined}
use Rattle.sr_union.proofs.join.with_one.Given as goal

abbrev pub invariant-loop-rect : goal.invariant-loop-rect
invariant-loop-rect l = IsJoined l.columns (l.initial.rects ++ l.initial.rect ∷ []) (l.rects ++ l.rect ∷ [])

abbrev pub decreases-loop-rect : goal.decreases-loop-rect
decreases-loop-rect l = length l.rects
