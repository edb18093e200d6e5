use Rattle.sr_links.proofs.AnswerLemmas.{served-answers-are-true}
use Rattle.sr_links.proofs.laws.served_answers_are_true.Goals as goal

pub returns : goal.returns
returns g c = served-answers-are-true g.C.Peer.is_of
