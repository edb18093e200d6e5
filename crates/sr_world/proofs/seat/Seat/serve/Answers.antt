use Rattle.std.proofs.Common.{rules, subst, sym, ◌∷◌, [], ◌≡◌, List}
use Rattle.std.proofs.lemmas.Result.{IfOk-weaker}
use Rattle.sr_client.proofs.Results.{if_ok}
use Rattle.sr_message.specs.declared.message.Message.{Message}
use Rattle.sr_script.specs.declared.line.TraceLine.TheVariants as line
use Rattle.sr_lines.specs.Events.{DoToServer}
use Rattle.sr_runs.specs.Runs.{Acts}
use Rattle.sr_world.specs.Seats.{SeatGoes}
use Rattle.sr_wire.proofs.Queues.{first}
use Rattle.sr_world.proofs.ServeLemmas.{oldest-fits, serve-goes, serve-idles}
use Rattle.sr_world.proofs.seat.Seat.serve.Goals as goal

pub returns-in-None-clause-goes : goal.returns-in-None-clause-goes
returns-in-None-clause-goes c =
    let old = c.args.self.now in
    let server = c.args.server.now in
    let none : old.to_server ≡ [] = search rules in
    let same : old.to_server ≡ c.pop.new.self = search rules in
    if_ok (SeatGoes (λ n s. Acts s (DoToServer n)) old server (record old { to_server = c.pop.new.self }) server) c.one_line.result (line.ServerEmpty old.client.id ∷ []) c.one_line.ensures
    (subst (λ (ms : List Message). SeatGoes (λ n s. Acts s (DoToServer n)) old server (record old { to_server = ms }) server (line.ServerEmpty old.client.id ∷ [])) same (serve-idles old server none))

pub hand_over-requires-clause-fits : goal.hand_over-requires-clause-fits
hand_over-requires-clause-fits c =
    let some = c.requires.stands in
    oldest-fits c.args.self.now c.args.server.now c.in-Some.message c.pop.new.self some.0 some.1 some.2
    (first c.in_ok-oldest.oldest c.in-Some.message c.args.self.now.to_server c.pop.new.self c.in-Some.is c.in_ok-oldest.ensures.taken)

pub returns-in-Some-clause-goes : goal.returns-in-Some-clause-goes
returns-in-Some-clause-goes c =
    let old = c.args.self.now in
    IfOk-weaker c.hand_over.result _ _
    (λ lines took. subst (SeatGoes (λ n s. Acts s (DoToServer n)) old c.args.server.now c.hand_over.new.self c.hand_over.new.server) (sym took.3)
    (serve-goes old c.hand_over.new.self c.args.server.now c.hand_over.new.server c.in-Some.message c.pop.new.self took.0
    (first c.in_ok-oldest.oldest c.in-Some.message c.args.self.now.to_server c.pop.new.self c.in-Some.is c.in_ok-oldest.ensures.taken) took.1 took.2))
    c.hand_over.ensures.took
