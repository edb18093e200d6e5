use Rattle.std.proofs.Common.{arith, ◌≤◌, ◌+◌, length}
use Rattle.sr_io.proofs.SoFar.{wire_taken}
use Rattle.sr_io.proofs.wire.Wire.get.Goals as goal

pub returns-clause-taken : goal.returns-clause-taken
returns-clause-taken c =
    let fits : c.self.inside.at + c.copy_piece-count.result ≤ length c.self.inside.brings = omega arith in
    rw (← c.self.view_is) (wire_taken _ _ _ _ _ _ fits c.copy_piece-count.ensures.first)
