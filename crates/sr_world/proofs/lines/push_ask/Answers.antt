use Rattle.sr_world.proofs.Sent.{no-other-ask}
use Rattle.sr_world.proofs.lines.push_ask.Goals as goal

pub unreachable-requires : goal.unreachable-requires
unreachable-requires c = no-other-ask _ c.requires.ask c.in_default.not-Ask
