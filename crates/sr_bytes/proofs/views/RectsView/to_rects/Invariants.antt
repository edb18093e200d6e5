use Rattle.std.proofs.Common.{◌≡◌, ◌++◌, length}
use Rattle.sr_bytes.proofs.views.RectsView.to_rects.Given as goal

abbrev pub invariant-loop-rect : goal.invariant-loop-rect
invariant-loop-rect l = l.rects ++ l.self ≡ l.fn.self

abbrev pub decreases-loop-rect : goal.decreases-loop-rect
decreases-loop-rect l = length l.self
