use Rattle.sr_session.proofs.GrowLemmas.{versions-never-fall, answers-never-fall}
use Rattle.sr_session.proofs.laws.versions_never_fall.Goals as goal

pub returns-clause-clients : goal.returns-clause-clients
returns-clause-clients c = versions-never-fall

pub returns-clause-answers : goal.returns-clause-answers
returns-clause-answers c = answers-never-fall
