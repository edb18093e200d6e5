use Rattle.sr_server.proofs.Taking.{with-session-stands}
use Rattle.sr_server.proofs.server.Server.finish.Goals as goal

pub returns-clause-stands : goal.returns-clause-stands
returns-clause-stands c db is = with-session-stands c.args.self.now c.set.new.self db c.args.outbox.client c.args.outbox.session is (c.requires.fits db is) c.set.ensures
