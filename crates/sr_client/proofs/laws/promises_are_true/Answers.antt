use Rattle.sr_client.proofs.PromiseLemmas.{promises-are-true}
use Rattle.sr_client.proofs.laws.promises_are_true.Goals as goal

pub returns : goal.returns
returns c = promises-are-true
