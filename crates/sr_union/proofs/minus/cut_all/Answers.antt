use Rattle.std.proofs.Common.{◌≡◌, arith, take, length, ◌∙◌, ◌<◌, ◌≤◌, ◌+◌, ◌*◌, ap, subst, sym, true, ◌++◌}
use Rattle.std.specs.List.{list_all}
use Rattle.std.proofs.lemmas.List.{take_all}
use Rattle.sr_box.specs.Points.{rect_fits, times}
use Rattle.sr_union.specs.Pieces.{minus_all, minus_each}
use Rattle.sr_union.specs.Grid.{grid, AreCutFrom}
use Rattle.sr_union.proofs.Parts.{left_are, left_few, left_more, are_fit}
use Rattle.sr_union.proofs.Times.{minus_all-times}
use Rattle.sr_union.proofs.minus.cut_all.Goals as goal

pub returns-then-len-limit-clause-over : goal.returns-then-len-limit-clause-over
returns-then-len-limit-clause-over c = λ m e h.
    let x = left_few c.args.columns.now c.args.rects c.args.others.now 0 m c.requires.first c.requires.rects_fit c.requires.others_fit h in
    omega (arith, x)

pub cut_each-requires-clause-rects_fit : goal.cut_each-requires-clause-rects_fit
cut_each-requires-clause-rects_fit c =
    let inv = subst (λ xs. c.loop-other.left ≡ minus_all c.args.columns.now c.args.rects (take c.loop-other.other-index xs)) c.as_slice-other-items.ensures c.loop-other.invariant.0 in
    subst (λ r. list_all (rect_fits c.args.columns.now) r ≡ true) (sym inv)
    (are_fit c.args.columns.now (c.args.rects ++ c.args.others.now) (minus_all c.args.columns.now c.args.rects (take c.loop-other.other-index c.args.others.now))
    (left_are c.args.columns.now c.args.rects c.args.others.now c.loop-other.other-index c.requires.first c.requires.rects_fit c.requires.others_fit))

pub loop-other-preserved : goal.loop-other-preserved
loop-other-preserved c =
    let i : c.in-Ok.next ≡ minus_each c.args.columns.now c.loop-other.left c.other-item.result = c.in-Ok.ensures.is in
    let m = left_more c.args.columns.now c.args.rects c.as_slice-other-items.result.now c.loop-other.other-index c.other-item.result c.loop-other-test.true in
    let inv = c.loop-other.invariant.0 in let it = c.other-item.is in
    (i ∙ (ap (λ l. minus_each c.args.columns.now l c.other-item.result) inv ∙ (ap (minus_each c.args.columns.now (minus_all c.args.columns.now c.args.rects (take c.loop-other.other-index c.as_slice-other-items.result.now))) it ∙ sym m)), c.in-Ok.ensures.few)

pub returns-in-Err-clause-over : goal.returns-in-Err-clause-over
returns-in-Err-clause-over c = λ m e h.
    let o : c.args.limit < length (minus_each c.args.columns.now c.loop-other.left c.other-item.result) = c.in-Err.ensures.over e in
    let m2 = left_more c.args.columns.now c.args.rects c.as_slice-other-items.result.now c.loop-other.other-index c.other-item.result c.loop-other-test.true in
    let inv = c.loop-other.invariant.0 in let it = c.other-item.is in
    let n = ap length (ap (λ l. minus_each c.args.columns.now l c.other-item.result) inv ∙ (ap (minus_each c.args.columns.now (minus_all c.args.columns.now c.args.rects (take c.loop-other.other-index c.as_slice-other-items.result.now))) it ∙ sym m2)) in
    let few = subst (λ xs. length (minus_all c.args.columns.now c.args.rects (take (c.loop-other.other-index + 1) xs)) ≤ m * grid c.args.columns.now (c.args.rects ++ c.args.others.now)) (sym c.as_slice-other-items.ensures)
    (left_few c.args.columns.now c.args.rects c.args.others.now (c.loop-other.other-index + 1) m c.requires.first c.requires.rects_fit c.requires.others_fit h) in
    omega (arith, o, n, few)

pub returns-clause-points : goal.returns-clause-points
returns-clause-points c = λ p e.
    let inv = subst (λ xs. c.loop-other.left ≡ minus_all c.args.columns.now c.args.rects (take c.loop-other.other-index xs)) c.as_slice-other-items.ensures c.loop-other.invariant.0 in
    let l = ap length c.as_slice-other-items.ensures in
    let t : take c.loop-other.other-index c.args.others.now ≡ c.args.others.now = take_all c.loop-other.other-index c.args.others.now (omega (arith, l)) in
    ap (λ r. times r p) (inv ∙ ap (minus_all c.args.columns.now c.args.rects) t) ∙ minus_all-times c.args.columns.now c.args.rects c.args.others.now p c.requires.others_fit e

pub returns-clause-cuts : goal.returns-clause-cuts
returns-clause-cuts c =
    let inv = subst (λ xs. c.loop-other.left ≡ minus_all c.args.columns.now c.args.rects (take c.loop-other.other-index xs)) c.as_slice-other-items.ensures c.loop-other.invariant.0 in
    subst (AreCutFrom c.args.columns.now (c.args.rects ++ c.args.others.now)) (sym inv)
    (left_are c.args.columns.now c.args.rects c.args.others.now c.loop-other.other-index c.requires.first c.requires.rects_fit c.requires.others_fit)
