use Rattle.sr_server.proofs.Served.{open-asked}
use Rattle.sr_server.proofs.serve.serve_open.Goals as goal

pub unreachable-requires : goal.unreachable-requires
unreachable-requires c = open-asked _ c.requires.served c.in_default.not-Ask
