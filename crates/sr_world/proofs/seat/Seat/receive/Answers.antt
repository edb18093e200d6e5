use Rattle.std.proofs.Common.{rules, refl, subst, ◌∷◌, [], ◌≡◌, List}
use Rattle.std.proofs.lemmas.Result.{on_ok_weaker}
use Rattle.sr_client.proofs.Results.{if_ok}
use Rattle.sr_message.specs.declared.message.Message.{Message}
use Rattle.sr_script.specs.declared.line.TraceLine.TheVariants as line
use Rattle.sr_lines.specs.Events.{DoToClient}
use Rattle.sr_runs.specs.Runs.{Acts}
use Rattle.sr_world.specs.Seats.{SeatGoes}
use Rattle.sr_world.proofs.ClientLemmas.{receive-goes, receive-idles, receive-lightens, took-few, took-sendable}
use Rattle.sr_feed.proofs.Frames.{first}
use Rattle.sr_world.proofs.seat.Seat.receive.Goals as goal

pub returns-in_default-clause-goes : goal.returns-in_default-clause-goes
returns-in_default-clause-goes c = λ server.
    let old = c.args.self.now in
    let none : old.to_client ≡ [] = search rules in
    let same : old.to_client ≡ c.pop.new.self = search rules in
    if_ok (SeatGoes (λ n s. Acts s (DoToClient n)) old server (record old { to_client = c.pop.new.self }) server) c.one_line.result (line.ClientEmpty old.client.id ∷ []) c.one_line.ensures
    (subst (λ (ms : List Message). SeatGoes (λ n s. Acts s (DoToClient n)) old server (record old { to_client = ms }) server (line.ClientEmpty old.client.id ∷ [])) same (receive-idles old server none))

pub returns-clause-goes : goal.returns-clause-goes
returns-clause-goes c = λ server.
    let old = c.args.self.now in
    receive-goes old (record old { client = c.take.new.self; to_client = c.pop.new.self }) c.send.new.self server c.in-Some.message c.pop.new.self c.in_ok-took.took c.in_ok-told.told c.send.result
    (first c.in_ok-oldest.oldest c.in-Some.message c.args.self.now.to_client c.pop.new.self c.in-Some.is c.in_ok-oldest.ensures.taken) c.in_ok-took.ensures.takes c.take.ensures.stays refl
    (λ o says. record { lines = c.in_ok-told.ensures.lines o says; sent = c.in_ok-told.ensures.sent o says })
    c.in_ok-took.ensures.sends c.send.ensures.sent c.send.ensures.lines

pub returns-clause-lightens : goal.returns-clause-lightens
returns-clause-lightens c =
    let old = c.args.self.now in
    on_ok_weaker c.send.result (λ made. (receive-lightens old (record old { client = c.take.new.self; to_client = c.pop.new.self }) c.send.new.self c.in-Some.message c.pop.new.self c.in_ok-took.took c.in_ok-told.told
    c.requires.stands (first c.in_ok-oldest.oldest c.in-Some.message c.args.self.now.to_client c.pop.new.self c.in-Some.is c.in_ok-oldest.ensures.taken) c.in_ok-took.ensures.takes refl
    (λ o says. record { lines = c.in_ok-told.ensures.lines o says; sent = c.in_ok-told.ensures.sent o says }) made).all) c.send.ensures.sent

pub returns-clause-rank : goal.returns-clause-rank
returns-clause-rank c =
    let old = c.args.self.now in
    on_ok_weaker c.send.result (λ made. (receive-lightens old (record old { client = c.take.new.self; to_client = c.pop.new.self }) c.send.new.self c.in-Some.message c.pop.new.self c.in_ok-took.took c.in_ok-told.told
    c.requires.stands (first c.in_ok-oldest.oldest c.in-Some.message c.args.self.now.to_client c.pop.new.self c.in-Some.is c.in_ok-oldest.ensures.taken) c.in_ok-took.ensures.takes refl
    (λ o says. record { lines = c.in_ok-told.ensures.lines o says; sent = c.in_ok-told.ensures.sent o says }) made).rank) c.send.ensures.sent

pub told_of_took-requires : goal.told_of_took-requires
told_of_took-requires c =
    let well = took-few c.args.self.now c.in-Some.message c.pop.new.self c.take.new.self c.in_ok-took.took c.requires.stands
    (first c.in_ok-oldest.oldest c.in-Some.message c.args.self.now.to_client c.pop.new.self c.in-Some.is c.in_ok-oldest.ensures.taken) c.in_ok-took.ensures.takes c.in_ok-took.ensures.sends in
    record { taken = well.0; few = well.1 }

pub send-requires : goal.send-requires
send-requires c = record {
  sendable =
      took-sendable c.args.self.now c.in-Some.message c.pop.new.self c.take.new.self c.in_ok-took.took c.in_ok-told.told.sent c.requires.stands (first c.in_ok-oldest.oldest c.in-Some.message c.args.self.now.to_client c.pop.new.self c.in-Some.is c.in_ok-oldest.ensures.taken)
      c.in_ok-took.ensures.takes c.in_ok-told.ensures.sent c.in_ok-took.ensures.sends;
}
