use Rattle.sr_dial_laws.proofs.TrueLemmas.{runs-go-by-told}
use Rattle.sr_dial_laws.proofs.laws.runs_go_by_told.Goals as goal

pub returns : goal.returns
returns g c = runs-go-by-told g.C.Peer.is_of g.C.Hearer.has_told
