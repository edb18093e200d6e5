use Rattle.sr_serve.proofs.EndLemmas.{becomes-still}
use Rattle.sr_serve.proofs.server_end.ServerEndServes.next.Goals as goal

pub returns-clause-becomes : goal.returns-clause-becomes
returns-clause-becomes c s becomes = becomes-still c.args.self.now c.args.outbox.now c.next.new.self s becomes c.next.ensures.others
