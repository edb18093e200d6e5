use Rattle.std.proofs.Common.{refl}
use Rattle.sr_world.specs.declared.seat.Seat.{Seat}
use Rattle.sr_world.proofs.ClientLemmas.{cut-goes, cut-numbers}
use Rattle.sr_world.proofs.ServeLemmas.{always-ok}
use Rattle.sr_world.proofs.seat.Seat.cut.Goals as goal

pub returns-clause-goes : goal.returns-clause-goes
returns-clause-goes c =
    let new : Seat = record { client = c.cut-step.new.self; to_server = c.clear.new.self; to_client = c.clear-2.new.self } in
    cut-goes c.args.self.now new c.args.server.now c.cut.new.self c.cut-step.result c.lines_of_cut.result
    c.cut-step.ensures.cuts c.cut-step.ensures.stays (rw (c.clear.ensures, c.clear-2.ensures) refl) c.cut.ensures.closed c.cut.ensures.stands c.lines_of_cut.ensures

pub returns-clause-draws : goal.returns-clause-draws
returns-clause-draws c =
    always-ok _ c.lines_of_cut.result (cut-numbers c.args.self.now c.cut-step.new.self c.cut-step.result c.args.server.now c.requires.stands c.cut-step.ensures.cuts)
