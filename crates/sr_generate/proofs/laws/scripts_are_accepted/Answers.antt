use Rattle.sr_generate.proofs.Accepted.{accepted-script}
use Rattle.sr_generate.proofs.laws.scripts_are_accepted.Goals as goal

pub returns : goal.returns
returns c = accepted-script
