use Rattle.std.proofs.Common.{◌≡◌, take, drop}
use Rattle.sr_outbox.proofs.asked.take_piece.Given as goal

abbrev pub invariant-keys : goal.invariant-keys
invariant-keys l = (l.keys ≡ take l.counter l.fn.left.items) × (l.left.items ≡ drop l.counter l.fn.left.items)
