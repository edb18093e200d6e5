use Rattle.std.proofs.Common.{refl}
use Rattle.sr_wire.proofs.Sizes.{few_are_sendable}
use Rattle.sr_bench.proofs.messages.write.Goals as goal

pub returns : goal.returns
returns c = rw c.in_ok-sql.ensures (few_are_sendable _ refl refl)
