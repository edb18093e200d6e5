use Rattle.sr_session.proofs.EventLemmas.{events-keep}
use Rattle.sr_session.proofs.laws.events_keep.Goals as goal

pub returns : goal.returns
returns c = events-keep
