use Rattle.sr_lines.proofs.Short.{ends_are_short}
use Rattle.sr_lines.proofs.laws.ends_are_short.Goals as goal

pub returns : goal.returns
returns c = ends_are_short
