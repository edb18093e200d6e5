use Rattle.sr_calls.proofs.HonestLemmas.{runs-from-any-client-go-by-told}
use Rattle.sr_calls.proofs.laws.runs_from_any_client_go_by_told.Goals as goal

pub returns : goal.returns
returns c = runs-from-any-client-go-by-told
