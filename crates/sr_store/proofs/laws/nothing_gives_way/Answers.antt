use Rattle.sr_store.proofs.GivingWay.{nothing-gives}
use Rattle.sr_store.proofs.laws.nothing_gives_way.Goals as goal

pub returns : goal.returns
returns c = nothing-gives
