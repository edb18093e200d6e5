use Rattle.std.proofs.Common.{◌∙◌, refl, sym, ap}
use Rattle.sr_box.specs.declared.span.Span.TheVariants.{Strs}
use Rattle.sr_union.specs.Joined.{texts}
use Rattle.sr_union.proofs.join.strs_beside.Goals as goal

pub returns-in_ok-copy-2 : goal.returns-in_ok-copy-2
returns-in_ok-copy-2 c =
    let same = c.same.ensures.0 c.if-same.true in
    texts c.args.a.now c.args.b.now c.args.d.now refl (ap (λ s. Strs s c.args.d.now) (sym same))
    (ap (λ s. Strs s c.in_ok-copy-2.field-0) c.in_ok-copy.ensures ∙ ap (Strs c.args.a.now) c.in_ok-copy-2.ensures)
