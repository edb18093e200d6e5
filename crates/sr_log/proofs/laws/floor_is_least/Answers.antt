use Rattle.sr_log.proofs.Least as least
use Rattle.sr_log.proofs.laws.floor_is_least.Goals as goal

pub returns : goal.returns
returns c = least.floor_is_least
