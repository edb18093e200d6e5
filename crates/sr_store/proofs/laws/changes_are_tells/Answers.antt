use Rattle.sr_store.proofs.Noticing.{changes-tell}
use Rattle.sr_store.proofs.laws.changes_are_tells.Goals as goal

pub returns : goal.returns
returns c = changes-tell
