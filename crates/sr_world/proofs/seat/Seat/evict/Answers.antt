use Rattle.std.proofs.Common.{refl}
use Rattle.sr_world.proofs.ClientLemmas.{evict-goes}
use Rattle.sr_world.proofs.seat.Seat.evict.Goals as goal

pub returns-clause-goes : goal.returns-clause-goes
returns-clause-goes c = λ server.
    let old = c.args.self.now in
    evict-goes old (record old { client = c.evict-step.new.self }) server c.args.place c.evict-step.result c.lines_of_evict.result
    c.evict-step.ensures.evicts c.evict-step.ensures.rest refl c.lines_of_evict.ensures
