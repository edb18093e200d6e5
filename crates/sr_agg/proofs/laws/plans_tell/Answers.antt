use Rattle.sr_agg.proofs.Lawful.{plans-tell}
use Rattle.sr_agg.proofs.laws.plans_tell.Goals as goal

pub returns : goal.returns
returns c = plans-tell
