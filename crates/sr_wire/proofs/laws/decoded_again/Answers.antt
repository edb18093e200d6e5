use Rattle.sr_wire.proofs.Frames.{decoded_again}
use Rattle.sr_wire.proofs.laws.decoded_again.Goals as goal

pub returns : goal.returns
returns c = decoded_again
