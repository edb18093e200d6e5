use Rattle.std.proofs.Common.{◌≡◌, ◌++◌, length}
use Rattle.sr_bytes.proofs.views.RectView.to_rect.Given as goal

abbrev pub invariant-loop-span : goal.invariant-loop-span
invariant-loop-span l = l.rect ++ l.self ≡ l.fn.self

abbrev pub decreases-loop-span : goal.decreases-loop-span
decreases-loop-span l = length l.self
