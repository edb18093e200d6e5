use Rattle.sr_generate.proofs.Inside.{inside-script}
use Rattle.sr_generate.proofs.laws.scripts_are_inside.Goals as goal

pub returns : goal.returns
returns c = inside-script
