use Rattle.sr_store.proofs.Lasts as lasts
use Rattle.sr_store.proofs.laws.lasts_are_last.Goals as goal

pub returns : goal.returns
returns c = lasts.lasts_are_last
