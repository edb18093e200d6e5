use Rattle.sr_semi.proofs.Parts.{parts-join}
use Rattle.sr_semi.proofs.laws.parts_join.Goals as goal

pub returns : goal.returns
returns c = parts-join
