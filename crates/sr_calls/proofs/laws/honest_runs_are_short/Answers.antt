use Rattle.sr_calls.proofs.HonestLemmas.{new-honest-runs-are-short}
use Rattle.sr_calls.proofs.laws.honest_runs_are_short.Goals as goal

pub returns : goal.returns
returns c = new-honest-runs-are-short
