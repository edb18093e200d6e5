use Rattle.sr_session.proofs.ProgressLemmas.{replies-answer}
use Rattle.sr_session.proofs.laws.replies_answer.Goals as goal

pub returns : goal.returns
returns c = replies-answer
