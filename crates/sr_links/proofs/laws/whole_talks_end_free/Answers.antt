use Rattle.sr_links.proofs.AnswerLemmas.{whole-talks-end-free}
use Rattle.sr_links.proofs.laws.whole_talks_end_free.Goals as goal

pub returns : goal.returns
returns g c = whole-talks-end-free g.C.Peer.is_of
