use Rattle.sr_calls.proofs.HonestLemmas.{served-runs-are-true}
use Rattle.sr_calls.proofs.laws.served_runs_are_true.Goals as goal

pub returns : goal.returns
returns c = served-runs-are-true
