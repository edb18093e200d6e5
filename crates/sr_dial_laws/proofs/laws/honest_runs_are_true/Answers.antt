use Rattle.sr_dial_laws.proofs.TrueLemmas.{honest-runs-are-true}
use Rattle.sr_dial_laws.proofs.laws.honest_runs_are_true.Goals as goal

pub returns : goal.returns
returns g c = honest-runs-are-true g.C.Peer.is_of g.C.Hearer.has_told
