use Rattle.sr_session.proofs.EventLemmas.{first-stands}
use Rattle.sr_session.proofs.laws.first_stands.Goals as goal

pub returns : goal.returns
returns c = first-stands
