use Rattle.sr_cli.proofs.LawLemmas.{warm-runs-are-true}
use Rattle.sr_cli.proofs.laws.warm_runs_are_true.Goals as goal

pub returns : goal.returns
returns g c = warm-runs-are-true g.H.Outside.IsSteady
