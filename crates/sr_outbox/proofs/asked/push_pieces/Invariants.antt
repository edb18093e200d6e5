use Rattle.std.proofs.Common.{◌≡◌, ◌++◌, map, length}
use Rattle.sr_outbox.specs.declared.item.Item.TheVariants.{Rows}
use Rattle.sr_outbox.specs.Items.{key_pieces}
use Rattle.sr_outbox.proofs.asked.push_pieces.Given as goal

abbrev pub invariant-pieces : goal.invariant-pieces
invariant-pieces l =
    l.items ++ map (Rows l.asked) (key_pieces (length l.left.items) l.left.items) ≡ l.initial.items ++ map (Rows l.asked) (key_pieces (length l.fn.keys) l.fn.keys)

abbrev pub decreases-pieces : goal.decreases-pieces
decreases-pieces l = length l.left.items
