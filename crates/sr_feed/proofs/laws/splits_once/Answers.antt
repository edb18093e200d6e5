use Rattle.sr_feed.proofs.Streams.{splits_once}
use Rattle.sr_feed.proofs.laws.splits_once.Goals as goal

pub returns : goal.returns
returns c = splits_once
