use Rattle.std.proofs.Common.{arith, ◌∙◌, sym, refl, ◌+◌}
use Rattle.sr_world.specs.Seats.{Delivers}
use Rattle.sr_world.proofs.SettleLemmas.{delivers-both, delivers-none, settles-all, still-some}
use Rattle.sr_world.proofs.seat.Seat.settle.Goals as goal

pub mail-init : goal.mail-init
mail-init c = record {
  goes = rw (c.none-done.ensures.frames, c.none-done.ensures.lines) (delivers-none c.args.self.now c.args.server.now);
  some = c.requires.stands;
  lighter = omega arith;
  schema = refl;
}

pub receive_until_sent-requires-clause-stands : goal.receive_until_sent-requires-clause-stands
receive_until_sent-requires-clause-stands c =
    still-some (λ n. Delivers c.in_ok-serve_all.field-0.frames n) c.mail.self c.serve_all.new.self c.mail.server c.serve_all.new.server c.in_ok-serve_all.field-0.lines c.mail.invariant.some c.in_ok-serve_all.ensures.deliveries

pub mail-preserved : goal.mail-preserved
mail-preserved c =
    let before = c.mail.invariant in
    let served = c.in_ok-serve_all.ensures.deliveries in
    let received = c.in_ok-receive_until_sent.ensures.deliveries in
    let light = c.in_ok-serve_all.ensures.lightens in
    let lights = c.in_ok-receive_until_sent.ensures.lightens in
    let lighter = before.lighter in
    let mid = still-some (λ n. Delivers c.in_ok-serve_all.field-0.frames n) c.mail.self c.serve_all.new.self c.mail.server c.serve_all.new.server c.in_ok-serve_all.field-0.lines before.some served in
    let first = delivers-both c.mail.done.frames c.in_ok-serve_all.field-0.frames c.args.self.now c.mail.self c.serve_all.new.self c.args.server.now c.mail.server c.serve_all.new.server
    c.mail.done.lines c.in_ok-serve_all.field-0.lines before.goes served in
    record {
      goes = rw (c.in_ok-append-2.ensures.frames, c.in_ok-append-2.ensures.lines, c.in_ok-append.ensures.frames, c.in_ok-append.ensures.lines)
          (delivers-both (c.mail.done.frames + c.in_ok-serve_all.field-0.frames) c.in_ok-receive_until_sent.field-0.frames c.args.self.now c.serve_all.new.self c.receive_until_sent.new.self
          c.args.server.now c.serve_all.new.server c.serve_all.new.server _ c.in_ok-receive_until_sent.field-0.lines first received);
      some = still-some (λ n. Delivers c.in_ok-receive_until_sent.field-0.frames n) c.serve_all.new.self c.receive_until_sent.new.self c.serve_all.new.server c.serve_all.new.server
          c.in_ok-receive_until_sent.field-0.lines mid received;
      lighter = omega (arith, light, lights, lighter);
      schema = c.serve_all.ensures.schema ∙ before.schema;
    }

pub returns-clause-settles : goal.returns-clause-settles
returns-clause-settles c =
    settles-all c.mail.done.frames c.args.self.now c.mail.self c.args.server.now c.mail.server c.mail.done.lines (sym c.has_mail.ensures ∙ c.mail-test.false) c.mail.invariant.goes
