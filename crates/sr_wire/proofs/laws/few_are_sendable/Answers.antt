use Rattle.sr_wire.proofs.Sizes.{few_are_sendable}
use Rattle.sr_wire.proofs.laws.few_are_sendable.Goals as goal

pub returns : goal.returns
returns c = few_are_sendable
