use Rattle.std.proofs.Common.{◌≡◌, ◌++◌, length}
use Rattle.sr_wire.proofs.views.AskPartsView.to_parts.Given as goal

abbrev pub invariant-loop-part : goal.invariant-loop-part
invariant-loop-part l = l.parts ++ l.self ≡ l.fn.self

abbrev pub decreases-loop-part : goal.decreases-loop-part
decreases-loop-part l = length l.self
