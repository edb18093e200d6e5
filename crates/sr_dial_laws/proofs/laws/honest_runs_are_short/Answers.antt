use Rattle.sr_dial_laws.proofs.TrueLemmas.{honest-runs-are-short}
use Rattle.sr_dial_laws.proofs.laws.honest_runs_are_short.Goals as goal

pub returns : goal.returns
returns g c = honest-runs-are-short g.C.Peer.is_of g.C.Hearer.has_told
