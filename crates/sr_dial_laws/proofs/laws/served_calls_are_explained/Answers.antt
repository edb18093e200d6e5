use Rattle.sr_dial_laws.proofs.ServedLemmas.{served-calls-are-explained}
use Rattle.sr_dial_laws.proofs.laws.served_calls_are_explained.Goals as goal

pub returns : goal.returns
returns g c = served-calls-are-explained _ g.S.Serves.gives
