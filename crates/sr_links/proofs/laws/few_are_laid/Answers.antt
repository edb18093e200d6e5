use Rattle.sr_links.proofs.AnswerLemmas.{few-are-laid}
use Rattle.sr_links.proofs.laws.few_are_laid.Goals as goal

pub returns : goal.returns
returns g c = few-are-laid g.C.Peer.is_of
