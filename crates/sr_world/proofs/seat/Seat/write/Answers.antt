use Rattle.std.proofs.Common.{◌≤◌, ◌+◌, refl, sym, ap, subst}
use Rattle.std.proofs.lemmas.Result.{on_ok_weaker}
use Rattle.sr_world.specs.declared.lines.Told.{Told}
use Rattle.sr_world.specs.declared.seat.Seat.{Seat}
use Rattle.sr_world.specs.Worlds.{drawn_by}
use Rattle.sr_world.proofs.ClientLemmas.{same-step, write-goes, write-numbers, write-sendable}
use Rattle.sr_world.proofs.seat.Seat.write.Goals as goal

pub returns-clause-goes : goal.returns-clause-goes
returns-clause-goes c = λ server.
    let old = c.args.self.now in
    write-goes old (record old { client = c.write.new.self }) c.send.new.self server c.args.sql.now c.in_ok-step.step c.in_ok-told.told c.send.result
    (λ long. let t = c.in_ok-step.ensures.too_long long in (same-step _ _ t.0, t.1)) c.in_ok-step.ensures.writes c.write.ensures.stays refl
    (λ o says. record { lines = c.in_ok-told.ensures.lines c.args.sql.now o says; sent = c.in_ok-told.ensures.sent c.args.sql.now o says })
    c.in_ok-told.ensures.refused c.in_ok-step.ensures.sends c.send.ensures.sent c.send.ensures.lines

pub returns-clause-draws : goal.returns-clause-draws
returns-clause-draws c =
    let old = c.args.self.now in
    let few = write-numbers old c.write.new.self c.args.sql.now c.in_ok-step.step c.requires.stands (λ long. let t = c.in_ok-step.ensures.too_long long in (same-step _ _ t.0, t.1)) c.in_ok-step.ensures.writes in
    on_ok_weaker c.send.result (λ made. subst (λ (x : Seat). drawn_by x ≤ drawn_by old + 2) (sym made) few) c.send.ensures.sent

pub send-requires : goal.send-requires
send-requires c = record {
  sendable =
      write-sendable c.args.self.now c.write.new.self c.args.sql.now c.in_ok-step.step c.in_ok-told.told.sent c.requires.stands (λ long. let t = c.in_ok-step.ensures.too_long long in (same-step _ _ t.0, t.1))
      c.in_ok-step.ensures.writes (λ o says. c.in_ok-told.ensures.sent c.args.sql.now o says) (λ fault is. ap (λ (t : Told). t.sent) (c.in_ok-told.ensures.refused fault is)) c.in_ok-step.ensures.sends;
}
