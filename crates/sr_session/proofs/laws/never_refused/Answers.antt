use Rattle.sr_session.proofs.NeverLemmas.{never-refused}
use Rattle.sr_session.proofs.laws.never_refused.Goals as goal

pub returns : goal.returns
returns c = never-refused
