use Rattle.sr_server.proofs.Served.{closed-begun}
use Rattle.sr_server.proofs.serve.serve_closed.Goals as goal

pub unreachable-requires : goal.unreachable-requires
unreachable-requires c = closed-begun _ c.requires.served c.in_default.not-Hello c.in_default.not-Resume

pub returns-in-Hello : goal.returns-in-Hello
returns-in-Hello c db tables keeps = rw c.in-Hello.is (c.welcome_anew.ensures db tables keeps)

pub returns-in-Resume : goal.returns-in-Resume
returns-in-Resume c db tables keeps = rw c.in-Resume.is (c.serve_resume.ensures db tables keeps)
