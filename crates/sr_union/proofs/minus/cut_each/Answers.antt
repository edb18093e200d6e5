use Rattle.std.proofs.Common.{rules, ◌≡◌, ◌∷◌, ◌++◌, append_assoc, arith, sym, ap, ◌∙◌}
use Rattle.std.specs.Vec.Iter.{into_iter_items}
use Rattle.sr_union.specs.Pieces.{minus_one, minus_each}
use Rattle.sr_union.proofs.minus.cut_each.Goals as goal

pub loop-rect-preserved : goal.loop-rect-preserved
loop-rect-preserved c =
    let columns = c.args.columns.now in
    let cut = c.args.cut.now in
    let out = c.loop-rect.out in
    let rect = c.in-Some.rect in
    let after = into_iter_items c.next.new.self in
    let first : into_iter_items c.loop-rect.rect-iterator ≡ rect ∷ after = c.in-Some.ensures.steps.0 in
    record {
      same = ap (λ pieces. pieces ++ minus_each columns after cut) c.in-Ok-push_left.ensures ∙ append_assoc out (minus_one columns rect cut) (minus_each columns after cut)
          ∙ sym (ap (λ rects. out ++ minus_each columns rects cut) first) ∙ c.loop-rect.invariant.same;
      few = search rules;
      fit = let all = c.loop-rect.invariant.fit in grind (arith, first, all);
    }
