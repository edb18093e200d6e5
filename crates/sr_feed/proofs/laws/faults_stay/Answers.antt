use Rattle.sr_feed.proofs.Streams.{faults_stay}
use Rattle.sr_feed.proofs.laws.faults_stay.Goals as goal

pub returns : goal.returns
returns c = faults_stay
