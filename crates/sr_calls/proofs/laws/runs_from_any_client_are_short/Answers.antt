use Rattle.sr_calls.proofs.HonestLemmas.{runs-from-any-client-are-short}
use Rattle.sr_calls.proofs.laws.runs_from_any_client_are_short.Goals as goal

pub returns : goal.returns
returns c = runs-from-any-client-are-short
