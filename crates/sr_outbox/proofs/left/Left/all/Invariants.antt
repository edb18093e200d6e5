use Rattle.std.proofs.Common.{◌≡◌, ◌++◌, length}
use Rattle.sr_outbox.specs.Left.{messages}
use Rattle.sr_outbox.proofs.left.Left.all.Given as goal

abbrev pub invariant-messages : goal.invariant-messages
invariant-messages l = l.sent ++ messages l.tables l.log l.self ≡ messages l.tables l.log l.fn.self

abbrev pub decreases-messages : goal.decreases-messages
decreases-messages l = length (messages l.tables l.log l.self)
