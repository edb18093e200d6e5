use Rattle.sr_store.proofs.GivingWay.{some-fits}
use Rattle.sr_store.proofs.laws.some_telling_fits.Goals as goal

pub returns : goal.returns
returns c = some-fits
