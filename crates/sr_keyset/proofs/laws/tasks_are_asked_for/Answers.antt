use Rattle.sr_keyset.proofs.Asking.{tasks-are-asked-for}
use Rattle.sr_keyset.proofs.laws.tasks_are_asked_for.Goals as goal

pub returns : goal.returns
returns c = tasks-are-asked-for
