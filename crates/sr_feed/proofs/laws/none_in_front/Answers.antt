use Rattle.sr_feed.proofs.Streams.{none_in_front}
use Rattle.sr_feed.proofs.laws.none_in_front.Goals as goal

pub returns : goal.returns
returns c = none_in_front
