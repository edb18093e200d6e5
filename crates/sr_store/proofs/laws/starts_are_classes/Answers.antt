use Rattle.sr_store.proofs.Starting as starting
use Rattle.sr_store.proofs.laws.starts_are_classes.Goals as goal

pub returns : goal.returns
returns c = starting.starts_are_classes
