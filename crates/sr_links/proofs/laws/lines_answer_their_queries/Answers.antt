use Rattle.sr_links.proofs.OutLemmas.{lines-answer}
use Rattle.sr_links.proofs.laws.lines_answer_their_queries.Goals as goal

pub returns : goal.returns
returns g c = lines-answer g.C.Peer.is_of
