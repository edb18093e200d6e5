use Rattle.std.proofs.Common.{◌≡◌, ◌-◌, take, drop, length, rules, arith, ◌∙◌, ap}
use Rattle.std.proofs.lemmas.Grind.{common_steps}
use Rattle.std.proofs.Math.Seq.{take-add}
use Rattle.sr_io.specs.Told.{sent_on}
use Rattle.sr_io.proofs.SoFar.{sent_on-append}
use Rattle.sr_io.proofs.whole.send_all.Goals as goal

pub loop-at-preserved : goal.loop-at-preserved
loop-at-preserved g c =
    let rest : take (length c.args.bytes.now - c.loop-at.at) (drop c.loop-at.at c.args.bytes.now) ≡ drop c.loop-at.at c.args.bytes.now = grind (arith, common_steps) in
    record {
      within = search rules;
      sent = rw take-add ((rw rest at c.in-Ok.ensures.sent) ∙ ap (sent_on (take c.in-Ok.count (drop c.loop-at.at c.args.bytes.now))) c.loop-at.invariant.sent ∙ sent_on-append _ _ _);
      none_without_connection = search rules;
      stays_steady = λ s. c.send.ensures.stays_steady (c.loop-at.invariant.stays_steady s);
      reading_stays = search rules;
      writing_stays = search rules;
      held_stays = search rules;
      complaints_stay = search rules;
    }
