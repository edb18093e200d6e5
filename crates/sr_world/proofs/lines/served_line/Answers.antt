use Rattle.sr_world.proofs.Served.{no-other-request}
use Rattle.sr_world.proofs.lines.served_line.Goals as goal

pub unreachable-requires : goal.unreachable-requires
unreachable-requires c =
    no-other-request _ c.requires.request c.in_default.not-Hello c.in_default.not-Resume c.in_default.not-Ask c.in_default.not-Write
