use Rattle.std.proofs.Common.{arith, ap, ◌≡◌, length}
use Rattle.sr_lines.specs.Events.{DoToClient}
use Rattle.sr_runs.specs.Runs.{Acts}
use Rattle.sr_world.proofs.SettleLemmas.{delivers-none, receives-more, still-some}
use Rattle.sr_world.proofs.seat.Seat.receive_until_sent.Goals as goal

pub mail-init : goal.mail-init
mail-init c = record {
  goes = rw (c.none-done.ensures.frames, c.none-done.ensures.lines) (delivers-none c.args.self.now c.args.server.now);
  some = c.requires.stands;
  lighter = omega arith;
  low = (let none : length c.args.self.now.to_server ≡ 0 = ap length c.requires.served in omega (arith, none));
}

pub mail-preserved : goal.mail-preserved
mail-preserved c =
    let before = c.mail.invariant in
    let light = c.in_ok-receive.ensures.lightens in
    let lighter = before.lighter in
    let low = before.low in
    let rank = c.in_ok-receive.ensures.rank in
    let own = c.in_ok-receive.ensures.goes c.args.server.now in
    let server_is = c.is_empty.ensures in
    let client_is = c.is_empty-in-mail.ensures in
    record {
      goes = rw (c.in_ok-push.ensures.frames, c.in_ok-push.ensures.lines)
          (receives-more c.mail.done.frames c.args.self.now c.mail.self c.receive.new.self c.args.server.now c.args.server.now c.args.server.now c.mail.done.lines c.in_ok-receive.field-0
          (server_is.0 c.mail-test.true) (λ none. absurd (let yes = client_is.1 none in grind (arith, yes, c.if-not-is_empty.true))) before.goes own);
      some = still-some (λ n s. Acts s (DoToClient n)) c.mail.self c.receive.new.self c.args.server.now c.args.server.now c.in_ok-receive.field-0 before.some own;
      lighter = omega (arith, light, lighter);
      low = omega (arith, rank, low);
    }
