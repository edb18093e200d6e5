use Rattle.std.proofs.Common.{◌≡◌, ◌-◌, take, drop, length, rules, arith}
use Rattle.std.proofs.lemmas.Grind.{common_steps}
use Rattle.std.proofs.Math.Seq.{take-add}
use Rattle.sr_io.proofs.SoFar.{Appends-append}
use Rattle.sr_io.proofs.whole.write_all.Goals as goal

pub loop-at-preserved : goal.loop-at-preserved
loop-at-preserved g c =
    let rest : take (length c.args.bytes.now - c.loop-at.at) (drop c.loop-at.at c.args.bytes.now) ≡ drop c.loop-at.at c.args.bytes.now = grind (arith, common_steps) in
    record {
      within = search rules;
      appended = rw take-add (Appends-append _ _ _ _ _ c.loop-at.invariant.appended (rw rest at c.in-Ok.ensures.bytes));
      same_faults = search rules;
      stays_steady = λ s. c.in-Ok.ensures.stays_steady (c.loop-at.invariant.stays_steady s);
      reading_stays = search rules;
      linking_stays = search rules;
      held_stays = search rules;
      complaints_stay = search rules;
    }
