use Rattle.sr_keyset.proofs.Right.{key-sets-are-right}
use Rattle.sr_keyset.proofs.laws.key_sets_are_right.Goals as goal

pub returns : goal.returns
returns g c = key-sets-are-right
