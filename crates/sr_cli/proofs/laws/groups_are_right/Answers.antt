use Rattle.sr_cli.proofs.LawLemmas.{groups-are-right}
use Rattle.sr_cli.proofs.laws.groups_are_right.Goals as goal

pub returns : goal.returns
returns g c = groups-are-right g.H.Outside.IsSteady
