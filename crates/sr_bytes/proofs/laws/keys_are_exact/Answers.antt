use Rattle.sr_bytes.proofs.Values.{key_exact}
use Rattle.sr_bytes.proofs.laws.keys_are_exact.Goals as goal

pub returns : goal.returns
returns c = key_exact
