use Rattle.std.proofs.Common.{◌≡◌, ◌+◌, ◌-◌, ◌∙◌, ap, false, ◌++◌, ◌∷◌, take, drop, subst, arith}
use Rattle.std.specs.Prelude.{Some}
use Rattle.std.specs.List.{slice_get}
use Rattle.sr_store.proofs.Partings.{take_out_set, take_out_plain}
use Rattle.sr_store.proofs.parting.take_out.Goals as goal

pub loop-i-preserved-in-Continue-1 : goal.loop-i-preserved-in-Continue-1
loop-i-preserved-in-Continue-1 c =
    let i = c.loop-i.i in
    let steps = take_out_set c.args.flags.now c.args.regions i false c.remove.result c.requires (omega (arith, c.loop-i-test.true)) (omega (arith, c.loop-i.auto.i)) c.if-flags-i.true
    (subst (λ gs. slice_get gs (i - 1) ≡ Some c.remove.result) c.loop-i.invariant.plain c.remove.ensures.taken) in
    record {
      plain = c.remove.ensures.removed ∙ ap (λ gs. take (i - 1) gs ++ drop (i - 1 + 1) gs) c.loop-i.invariant.plain ∙ steps.0;
      flagged = c.in_ok-insert.ensures.inserted ∙ ap (λ gs. c.remove.result ∷ gs) c.loop-i.invariant.flagged ∙ steps.1;
    }

pub loop-i-preserved : goal.loop-i-preserved
loop-i-preserved c =
    let steps = take_out_plain c.args.flags.now c.args.regions c.loop-i.i false c.requires (omega (arith, c.loop-i-test.true)) (omega (arith, c.loop-i.auto.i)) c.if-flags-i.false in
    record { plain = c.loop-i.invariant.plain ∙ steps.0; flagged = c.loop-i.invariant.flagged ∙ steps.1 }
