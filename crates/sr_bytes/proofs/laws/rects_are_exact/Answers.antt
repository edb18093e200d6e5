use Rattle.sr_bytes.proofs.Values.{rects_exact}
use Rattle.sr_bytes.proofs.laws.rects_are_exact.Goals as goal

pub returns : goal.returns
returns c = rects_exact
