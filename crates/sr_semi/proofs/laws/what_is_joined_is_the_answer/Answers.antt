use Rattle.sr_semi.proofs.Whole.{joined-is-answer}
use Rattle.sr_semi.proofs.laws.what_is_joined_is_the_answer.Goals as goal

pub returns : goal.returns
returns c = joined-is-answer
