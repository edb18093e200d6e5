use Rattle.std.proofs.Common.{◌≡◌, ◌++◌, drop}
use Rattle.sr_outbox.specs.Items.{touched_from}
use Rattle.sr_outbox.proofs.told.touched.Given as goal

abbrev pub invariant-loop-i : goal.invariant-loop-i
invariant-loop-i l = l.places ++ touched_from l.i l.subs (drop l.i l.changes) ≡ touched_from 0 l.subs l.changes
