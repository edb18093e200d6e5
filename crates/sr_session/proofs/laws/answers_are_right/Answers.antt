use Rattle.sr_session.proofs.AnswerLemmas.{answers-are-right}
use Rattle.sr_session.proofs.laws.answers_are_right.Goals as goal

pub returns : goal.returns
returns c = record { rows = answers-are-right }
