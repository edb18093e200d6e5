use Rattle.std.proofs.Common.{refl}
use Rattle.sr_wire.proofs.Sizes.{few_are_sendable}
use Rattle.sr_bench.proofs.messages.answer.Goals as goal

pub returns : goal.returns
returns c = few_are_sendable _ c.in_ok-rows.ensures refl
