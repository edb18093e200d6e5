use Rattle.sr_keyset.proofs.Answering.{what-is-written-is-right}
use Rattle.sr_keyset.proofs.laws.what_is_written_is_right.Goals as goal

pub returns : goal.returns
returns c = what-is-written-is-right
