use Rattle.sr_wire.proofs.Frames.{decoded_spelled}
use Rattle.sr_wire.proofs.laws.one_spelling.Goals as goal

pub returns : goal.returns
returns c bytes m size fits e = let f = decoded_spelled bytes m size fits e in (f.has, f.is, f.size_is)
