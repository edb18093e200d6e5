use Rattle.sr_session.proofs.ResumableLemmas as proved
use Rattle.sr_session.proofs.laws.regions_can_resume.Goals as goal

pub returns : goal.returns
returns c = proved.regions-can-resume
