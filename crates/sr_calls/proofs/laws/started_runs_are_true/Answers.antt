use Rattle.sr_calls.proofs.StartedLemmas.{started-runs-are-true}
use Rattle.sr_calls.proofs.laws.started_runs_are_true.Goals as goal

pub returns : goal.returns
returns c = started-runs-are-true
