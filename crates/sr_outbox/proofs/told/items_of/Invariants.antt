use Rattle.std.proofs.Common.{◌≡◌, ◌++◌, drop}
use Rattle.sr_outbox.specs.Items.{notice_items}
use Rattle.sr_outbox.proofs.told.items_of.Given as goal

abbrev pub invariant-loop-i : goal.invariant-loop-i
invariant-loop-i l = l.items ++ notice_items l.subs l.above (drop l.i l.entries) ≡ notice_items l.subs l.version l.entries
