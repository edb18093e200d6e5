use Rattle.std.proofs.Common.{◌≤◌, ◌+◌, refl, sym, subst}
use Rattle.std.proofs.lemmas.Result.{on_ok_weaker}
use Rattle.sr_world.specs.declared.seat.Seat.{Seat}
use Rattle.sr_world.specs.Worlds.{drawn_by}
use Rattle.sr_world.proofs.ClientLemmas.{query-few, query-goes, query-numbers, query-sendable}
use Rattle.sr_world.proofs.seat.Seat.query.Goals as goal

pub returns-clause-goes : goal.returns-clause-goes
returns-clause-goes c = λ server meaning means.
    let old = c.args.self.now in
    query-goes old (record old { client = c.query.new.self }) c.send.new.self server meaning c.in_ok-step.step c.in_ok-told.told c.send.result
    (c.in_ok-step.ensures.queries meaning means) c.query.ensures.stays refl
    (λ past o says. record { lines = c.in_ok-told.ensures.lines past o says; sent = c.in_ok-told.ensures.sent past o says })
    c.in_ok-step.ensures.sends c.send.ensures.sent c.send.ensures.lines

pub returns-clause-draws : goal.returns-clause-draws
returns-clause-draws c =
    let old = c.args.self.now in
    let few = query-numbers old c.query.new.self c.requires.meant.0 c.in_ok-step.step c.requires.stands (c.in_ok-step.ensures.queries c.requires.meant.0 c.requires.meant.1) in
    on_ok_weaker c.send.result (λ made. subst (λ (x : Seat). drawn_by x ≤ drawn_by old + 2) (sym made) few) c.send.ensures.sent

pub told_of_query-requires : goal.told_of_query-requires
told_of_query-requires c = record {
  few = query-few c.args.self.now c.query.new.self c.requires.meant.0 c.in_ok-step.step c.requires.stands (c.in_ok-step.ensures.queries c.requires.meant.0 c.requires.meant.1) c.in_ok-step.ensures.sends;
}

pub send-requires : goal.send-requires
send-requires c = record {
  sendable =
      query-sendable c.args.self.now c.query.new.self c.requires.meant.0 c.in_ok-step.step c.in_ok-told.told.sent c.requires.stands (c.in_ok-step.ensures.queries c.requires.meant.0 c.requires.meant.1) c.in_ok-told.ensures.sent
      c.in_ok-step.ensures.sends;
}
