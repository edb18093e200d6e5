use Rattle.sr_runs.proofs.StepLemmas.{scripts-reach, scripts-stand}
use Rattle.sr_runs.proofs.laws.scripts_reach.Goals as goal

pub returns-clause-reach : goal.returns-clause-reach
returns-clause-reach c = scripts-reach

pub returns-clause-stand : goal.returns-clause-stand
returns-clause-stand c = scripts-stand
