use Rattle.std.proofs.Common.{◌≡◌, ◌++◌, drop}
use Rattle.sr_outbox.specs.Items.{row_items}
use Rattle.sr_outbox.proofs.asked.push_parts.Given as goal

abbrev pub invariant-loop-i : goal.invariant-loop-i
invariant-loop-i l = l.items ++ row_items l.tables l.number l.i (drop l.i l.parts) ≡ l.initial.items ++ row_items l.tables l.number 0 l.parts
