use Rattle.sr_session.proofs.EventLemmas.{others-stay}
use Rattle.sr_session.proofs.laws.others_stay.Goals as goal

pub returns : goal.returns
returns c = others-stay
