use Rattle.sr_calls.proofs.HonestLemmas.{scripts-ask-few}
use Rattle.sr_calls.proofs.laws.scripts_ask_few.Goals as goal

pub returns : goal.returns
returns c = scripts-ask-few
