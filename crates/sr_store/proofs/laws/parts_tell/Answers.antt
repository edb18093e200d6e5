use Rattle.sr_store.proofs.Starting as starting
use Rattle.sr_store.proofs.laws.parts_tell.Goals as goal

pub returns : goal.returns
returns c = starting.parts_tell
