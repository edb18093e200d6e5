use Rattle.sr_feed.proofs.Streams.{in_order}
use Rattle.sr_feed.proofs.laws.frames_in_order.Goals as goal

pub returns : goal.returns
returns c = in_order
