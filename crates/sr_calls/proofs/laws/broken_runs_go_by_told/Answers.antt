use Rattle.sr_calls.proofs.HonestLemmas.{broken-runs-go-by-told}
use Rattle.sr_calls.proofs.laws.broken_runs_go_by_told.Goals as goal

pub returns : goal.returns
returns c = broken-runs-go-by-told
