use Rattle.sr_links.proofs.HaveLemmas.{served-clients-have-the-rows}
use Rattle.sr_links.proofs.laws.served_clients_have_the_rows.Goals as goal

pub returns : goal.returns
returns g c = served-clients-have-the-rows g.C.Peer.is_of
