use Rattle.sr_cli.proofs.LawLemmas.{joins-are-right}
use Rattle.sr_cli.proofs.laws.joins_are_right.Goals as goal

pub returns : goal.returns
returns g c = joins-are-right g.H.Outside.IsSteady
