use Rattle.std.proofs.Common.{arith, ◌∙◌, refl}
use Rattle.sr_lines.specs.Events.{DoToServer}
use Rattle.sr_runs.specs.Runs.{Acts}
use Rattle.sr_world.proofs.SettleLemmas.{delivers-none, serves-more, still-some}
use Rattle.sr_world.proofs.seat.Seat.serve_all.Goals as goal

pub mail-init : goal.mail-init
mail-init c = record {
  goes = rw (c.none-done.ensures.frames, c.none-done.ensures.lines) (delivers-none c.args.self.now c.args.server.now);
  some = c.requires.stands;
  lighter = omega arith;
  client = refl;
  schema = refl;
}

pub mail-preserved : goal.mail-preserved
mail-preserved c =
    let before = c.mail.invariant in
    let light = c.in_ok-serve.ensures.lightens in
    let lighter = before.lighter in
    let is = c.is_empty.ensures in
    record {
      goes = rw (c.in_ok-push.ensures.frames, c.in_ok-push.ensures.lines)
          (serves-more c.mail.done.frames c.args.self.now c.mail.self c.serve.new.self c.args.server.now c.mail.server c.serve.new.server c.mail.done.lines c.in_ok-serve.field-0
          (λ none. absurd (grind (arith, is, none, c.mail-test.true))) before.goes c.in_ok-serve.ensures.goes);
      some = still-some (λ n s. Acts s (DoToServer n)) c.mail.self c.serve.new.self c.mail.server c.serve.new.server c.in_ok-serve.field-0 before.some c.in_ok-serve.ensures.goes;
      lighter = omega (arith, light, lighter);
      client = c.serve.ensures.client ∙ before.client;
      schema = c.serve.ensures.schema ∙ before.schema;
    }
