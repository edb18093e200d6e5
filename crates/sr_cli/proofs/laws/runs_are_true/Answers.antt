use Rattle.sr_cli.proofs.LawLemmas.{runs-are-true}
use Rattle.sr_cli.proofs.laws.runs_are_true.Goals as goal

pub returns : goal.returns
returns g c = runs-are-true g.H.Outside.IsSteady
