use Rattle.sr_plan.proofs.Going.{goes-more, stage-more}
use Rattle.sr_plan.proofs.laws.one_more_goes_by.Goals as goal

pub returns-clause-due : goal.returns-clause-due
returns-clause-due g c s ds d h due = goes-more s ds d h due

pub returns-clause-stage : goal.returns-clause-stage
returns-clause-stage g c s ds d = stage-more s ds d
