use Rattle.std.proofs.Common.{◌≡◌, ◌∷◌, ◌++◌, ◌<◌, true, false, length, drop, ap, subst, arith}
use Rattle.std.specs.Vec.Iter.{into_iter_items}
use Rattle.sr_store.specs.Answered.{flagged}
use Rattle.sr_store.proofs.Partings.{put_plain, put_flagged}
use Rattle.sr_store.proofs.parting.move_all.Goals as goal

pub loop-region-preserved : goal.loop-region-preserved
loop-region-preserved c =
    let i = c.loop-region.i in
    let fs = c.args.flags.now in
    let front = c.loop-region.both in
    let g = c.in-Some.region in
    let rest = into_iter_items c.next.new.self in
    let turn : into_iter_items c.loop-region.region-iterator ≡ g ∷ rest = c.in-Some.ensures.steps.0 in
    let long = ap length turn in
    let below : i < length fs = omega (arith, long, c.loop-region.invariant.count) in
    record {
      plain = put_plain fs g rest i front.plain c.put.new.both.plain _ below c.in_ok-put.ensures.plain (subst (λ gs. front.plain ++ flagged false (drop i fs) gs ≡ flagged false fs c.args.regions) turn c.loop-region.invariant.plain);
      flagged = put_flagged fs g rest i front.flagged c.put.new.both.flagged _ below c.in_ok-put.ensures.flagged (subst (λ gs. front.flagged ++ flagged true (drop i fs) gs ≡ flagged true fs c.args.regions) turn c.loop-region.invariant.flagged);
      count = omega (arith, long, c.loop-region.invariant.count);
    }
