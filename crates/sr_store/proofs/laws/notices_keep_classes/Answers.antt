use Rattle.sr_store.proofs.Noticing.{notices-classes}
use Rattle.sr_store.proofs.laws.notices_keep_classes.Goals as goal

pub returns : goal.returns
returns c = notices-classes
