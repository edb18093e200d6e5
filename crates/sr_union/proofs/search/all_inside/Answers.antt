use Rattle.std.proofs.Common.{◌≡◌, true, false, arith}
use Rattle.sr_union.specs.Search.{is_covered}
use Rattle.sr_union.proofs.Free.{outside_more}
use Rattle.sr_union.proofs.Searching.{covered-outside, covered-within, fits_items, within_more}
use Rattle.sr_union.proofs.search.all_inside.Goals as goal

pub returns-then-not-branch-clause-outside : goal.returns-then-not-branch-clause-outside
returns-then-not-branch-clause-outside c = λ _.
    let fit = fits_items c.args.columns.now c.args.rects.now c.as_slice-rect-items.result.now c.loop-rect.rect-index c.rect-item.result c.requires.rects_fit c.as_slice-rect-items.ensures c.loop-rect-test.true c.rect-item.is in
    let not_covered : is_covered c.args.columns.now c.args.others.now c.rect-item.result ≡ false = grind (arith, c.in_ok-covers.ensures, c.if-not-branch.true) in
    outside_more c.args.columns.now c.args.rects.now c.args.others.now c.as_slice-rect-items.result.now c.loop-rect.rect-index c.rect-item.result c.as_slice-rect-items.ensures c.loop-rect-test.true c.rect-item.is
    (covered-outside c.args.columns.now c.rect-item.result c.args.others.now c.requires.first fit c.requires.others_fit not_covered)

pub loop-rect-preserved : goal.loop-rect-preserved
loop-rect-preserved c =
    let fit = fits_items c.args.columns.now c.args.rects.now c.as_slice-rect-items.result.now c.loop-rect.rect-index c.rect-item.result c.requires.rects_fit c.as_slice-rect-items.ensures c.loop-rect-test.true c.rect-item.is in
    let covered : is_covered c.args.columns.now c.args.others.now c.rect-item.result ≡ true = grind (arith, c.in_ok-covers.ensures, c.if-not-branch.false) in
    within_more c.args.columns.now c.as_slice-rect-items.result.now c.args.others.now c.loop-rect.rect-index c.rect-item.result c.loop-rect-test.true c.rect-item.is c.loop-rect.invariant
    (covered-within c.args.columns.now c.rect-item.result c.args.others.now c.requires.first fit c.requires.others_fit covered)
