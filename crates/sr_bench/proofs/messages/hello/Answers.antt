use Rattle.std.proofs.Common.{refl}
use Rattle.sr_wire.proofs.Sizes.{few_are_sendable}
use Rattle.sr_bench.proofs.messages.hello.Goals as goal

pub returns : goal.returns
returns c = few_are_sendable _ refl refl
