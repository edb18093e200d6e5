use Rattle.sr_calls.proofs.HonestLemmas.{runs-go-by-told}
use Rattle.sr_calls.proofs.laws.runs_go_by_told.Goals as goal

pub returns : goal.returns
returns c = runs-go-by-told
