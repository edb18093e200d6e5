use Rattle.sr_answers.proofs.Answered.{true-steps-answer}
use Rattle.sr_answers.proofs.laws.true_steps_answer.Goals as goal

pub returns : goal.returns
returns g c = true-steps-answer
