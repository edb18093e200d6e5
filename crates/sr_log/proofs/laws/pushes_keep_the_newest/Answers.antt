use Rattle.sr_log.proofs.Again as again
use Rattle.sr_log.proofs.laws.pushes_keep_the_newest.Goals as goal

pub returns-clause-one : goal.returns-clause-one
returns-clause-one c = again.push_keeps_newest

pub returns-clause-all : goal.returns-clause-all
returns-clause-all c = again.pushes_keep_newest
