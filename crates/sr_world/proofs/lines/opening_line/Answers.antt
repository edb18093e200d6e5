use Rattle.sr_world.proofs.Sent.{no-other-opening}
use Rattle.sr_world.proofs.lines.opening_line.Goals as goal

pub unreachable-requires : goal.unreachable-requires
unreachable-requires c = no-other-opening _ c.requires.opens c.in_default.not-Hello c.in_default.not-Resume
