use Rattle.sr_bind.proofs.Listed.{all_together}
use Rattle.sr_bind.proofs.parts.together.Goals as goal

pub returns : goal.returns
returns c = all_together c.into_vec.result c.args.conjuncts c.into_vec.ensures
