use Rattle.sr_store.proofs.Noticing.{notices-true}
use Rattle.sr_store.proofs.laws.notices_keep_true.Goals as goal

pub returns : goal.returns
returns c = notices-true
