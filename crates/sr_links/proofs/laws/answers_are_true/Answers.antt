use Rattle.sr_links.proofs.AnswerLemmas.{answers-are-true}
use Rattle.sr_links.proofs.laws.answers_are_true.Goals as goal

pub returns : goal.returns
returns g c = answers-are-true g.C.Peer.is_of
