use Rattle.sr_store.proofs.Fewer as fewer
use Rattle.sr_store.proofs.laws.fitted_fit_still.Goals as goal

pub returns : goal.returns
returns c = fewer.fitted_fit_still
