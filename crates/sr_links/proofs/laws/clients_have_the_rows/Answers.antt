use Rattle.sr_links.proofs.HaveLemmas.{clients-have-the-rows}
use Rattle.sr_links.proofs.laws.clients_have_the_rows.Goals as goal

pub returns : goal.returns
returns g c = clients-have-the-rows g.C.Peer.is_of
