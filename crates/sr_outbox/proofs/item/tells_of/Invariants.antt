use Rattle.std.proofs.Common.{◌≡◌, ◌++◌, drop, map}
use Rattle.sr_message.specs.Tells.{tell_of}
use Rattle.sr_outbox.specs.Left.{picked}
use Rattle.sr_outbox.proofs.item.tells_of.Given as goal

abbrev pub invariant-loop-i : goal.invariant-loop-i
invariant-loop-i l = l.told ++ map tell_of (picked (drop l.i l.places) l.changes) ≡ map tell_of (picked l.places l.changes)
