use Rattle.std.proofs.Common.{◌-◌, ◌^◌, ap}
use Rattle.sr_log.specs.Held.{newest as newest_of}
use Rattle.sr_server.specs.declared.server.Server.{Server}
use Rattle.sr_serve.proofs.EndLemmas.{end-finished, none-there}
use Rattle.sr_serve.proofs.server_end.ServerEndServes.finish.Goals as goal

pub finish-requires : goal.finish-requires
finish-requires c =
    let (s, becomes) = c.requires.begun in
    record {
      client = becomes.number;
      stands = (s.database, becomes.closed.server);
      none = c.requires.none;
      closed = none-there c.args.self.now.server.sessions c.args.outbox.client becomes.closed.session.1;
      fits = becomes.fits;
    }

pub returns-clause-finished : goal.returns-clause-finished
returns-clause-finished c s becomes = end-finished c.args.self.now c.args.outbox c.finish.new.self s becomes c.finish.ensures.put (c.finish.ensures.stands s.database becomes.closed.server)

pub returns-clause-draws : goal.returns-clause-draws
returns-clause-draws c = ap (λ (x : Server). 2 ^ 63 - 1 - newest_of x.log) c.finish.ensures.put
