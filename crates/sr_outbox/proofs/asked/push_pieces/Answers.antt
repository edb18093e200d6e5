use Rattle.std.proofs.Common.{◌∙◌, ◌<◌, length, arith}
use Rattle.sr_outbox.proofs.Pieces.{pieces-step, pieces-shorter}
use Rattle.sr_outbox.proofs.asked.push_pieces.Goals as goal

pub pieces-smaller : goal.pieces-smaller
pieces-smaller c =
    let some : 0 < length c.pieces.left.items = omega arith in
    pieces-shorter c.pieces.left.items c.take_piece.new.left.items some c.in_ok-keys.ensures.left

pub pieces-preserved : goal.pieces-preserved
pieces-preserved c =
    let some : 0 < length c.pieces.left.items = omega arith in
    rw (c.in_ok-push.ensures.pushed, c.again.ensures)
    (pieces-step c.pieces.items c.args.asked.now c.in_ok-keys.keys c.pieces.left.items c.take_piece.new.left.items some c.in_ok-keys.ensures.piece c.in_ok-keys.ensures.left ∙ c.pieces.invariant)
