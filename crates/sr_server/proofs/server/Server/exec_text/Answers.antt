use Rattle.std.proofs.Common.{◌∙◌, arith}
use Rattle.sr_server.proofs.Standing.{stands-more}
use Rattle.sr_server.proofs.Taking.{newest-carried}
use Rattle.sr_server.proofs.server.Server.exec_text.Goals as goal

pub returns-in-Ok-clause-version : goal.returns-in-Ok-clause-version
returns-in-Ok-clause-version c = c.version.ensures ∙ newest-carried c.requires.stands.0 c.args.self.now c.write.new.self c.requires.stands.1 c.in-Ok.ensures.carried

pub returns-in-Ok-clause-stands : goal.returns-in-Ok-clause-stands
returns-in-Ok-clause-stands c db is = stands-more c.args.self.now c.write.new.self db is c.in-Ok.ensures.carried

pub returns-in-Ok-clause-grows : goal.returns-in-Ok-clause-grows
returns-in-Ok-clause-grows c = omega (arith, newest-carried c.requires.stands.0 c.args.self.now c.write.new.self c.requires.stands.1 c.in-Ok.ensures.carried)
