use Rattle.sr_session.proofs.EventLemmas.{runs-stand}
use Rattle.sr_session.proofs.laws.runs_stand.Goals as goal

pub returns : goal.returns
returns c = runs-stand
