use Rattle.std.proofs.Common.{◌≡◌, ◌∷◌, ◌+◌, take, true, arith, subst, sym, ap}
use Rattle.std.specs.List.{list_all}
use Rattle.sr_box.specs.Points.{rect_fits}
use Rattle.sr_union.specs.Grid.{grid}
use Rattle.sr_union.proofs.Parts.{are_fit}
use Rattle.sr_union.proofs.Once.{step_grid, once_few}
use Rattle.sr_union.proofs.Joined.{step_once}
use Rattle.sr_union.proofs.disjoint.once_all.Goals as goal

pub rest_of-requires-clause-others_fit : goal.rest_of-requires-clause-others_fit
rest_of-requires-clause-others_fit c = are_fit c.args.columns.now c.as_slice-rect-items.result.now c.loop-rect.once c.loop-rect.invariant.cuts

pub with_all-requires-clause-rects_fit : goal.with_all-requires-clause-rects_fit
with_all-requires-clause-rects_fit c = are_fit c.args.columns.now c.as_slice-rect-items.result.now c.loop-rect.once c.loop-rect.invariant.cuts

pub with_all-requires-clause-more_fit : goal.with_all-requires-clause-more_fit
with_all-requires-clause-more_fit c = are_fit c.args.columns.now (c.rect-item.result ∷ c.loop-rect.once) c.in-Ok.rest c.in-Ok.ensures.cuts

pub returns-in-Err-clause-over : goal.returns-in-Err-clause-over
returns-in-Err-clause-over c = λ e.
    let items = c.as_slice-rect-items.ensures in
    let fit = subst (λ rects. list_all (rect_fits c.args.columns.now) rects ≡ true) (sym items) c.requires.fit in
    let few = step_grid c.args.columns.now c.as_slice-rect-items.result.now c.loop-rect.once c.loop-rect.rect-index c.rect-item.result fit c.loop-rect-test.true c.rect-item.is c.loop-rect.invariant.cuts in
    let same = ap (grid c.args.columns.now) items in let many = c.in-Err.ensures.over e in omega (arith, few, same, many)

pub returns-then-len-limit-clause-over : goal.returns-then-len-limit-clause-over
returns-then-len-limit-clause-over c = λ e.
    let items = c.as_slice-rect-items.ensures in
    let fit = subst (λ rects. list_all (rect_fits c.args.columns.now) rects ≡ true) (sym items) c.requires.fit in
    let step = step_once c.args.columns.now c.as_slice-rect-items.result.now c.loop-rect.once c.in-Ok.rest c.in_ok-once.once c.loop-rect.rect-index c.rect-item.result fit c.loop-rect-test.true c.rect-item.is
    c.loop-rect.invariant.points c.loop-rect.invariant.cuts c.in-Ok.ensures.points c.in-Ok.ensures.cuts c.in_ok-once.ensures in
    let few = once_few c.args.columns.now c.as_slice-rect-items.result.now (take (c.loop-rect.rect-index + 1) c.as_slice-rect-items.result.now) c.in_ok-once.once c.requires.first fit step.1 step.0 in
    let same = ap (grid c.args.columns.now) items in let long = c.if-len-limit.true in let is = c.len.ensures in omega (arith, few, same, long, is)

pub loop-rect-preserved : goal.loop-rect-preserved
loop-rect-preserved c =
    let items = c.as_slice-rect-items.ensures in
    let fit = subst (λ rects. list_all (rect_fits c.args.columns.now) rects ≡ true) (sym items) c.requires.fit in
    let step = step_once c.args.columns.now c.as_slice-rect-items.result.now c.loop-rect.once c.in-Ok.rest c.in_ok-once.once c.loop-rect.rect-index c.rect-item.result fit c.loop-rect-test.true c.rect-item.is
    c.loop-rect.invariant.points c.loop-rect.invariant.cuts c.in-Ok.ensures.points c.in-Ok.ensures.cuts c.in_ok-once.ensures in
    let short = c.if-len-limit.false in let is = c.len.ensures in
    record { points = step.0; cuts = step.1; few = omega (arith, short, is) }
