use Rattle.sr_calls.proofs.HonestLemmas.{scripts-are-asked-for}
use Rattle.sr_calls.proofs.laws.scripts_are_asked_for.Goals as goal

pub returns : goal.returns
returns c = scripts-are-asked-for
