use Rattle.std.proofs.Common.{◌∷◌}
use Rattle.sr_cell.specs.declared.cell.Cell.TheVariants.{Null as NullCell}
use Rattle.sr_condition.proofs.Left.{left-first, left-step, left-done, next-inner}
use Rattle.sr_condition.proofs.spans.left_by.Goals as goal

pub loop-span-init : goal.loop-span-init
loop-span-init c = λ ends at. left-first c.args.column.now ends c.in_ok-spans.spans c.requires.good c.in_ok-spans.ensures

pub cut-requires : goal.cut-requires
cut-requires c =
    next-inner c.args.column.now c.args.taken.now c.as_slice-span-items.result.now c.loop-span.span-index c.span-item.result c.requires.good c.as_slice-span-items.ensures c.loop-span-test.true c.span-item.is
    c.requires.fits

pub loop-span-preserved : goal.loop-span-preserved
loop-span-preserved c =
    λ ends. left-step c.args.column.now (NullCell ∷ ends) c.args.taken.now c.as_slice-span-items.result.now c.loop-span.span-index c.span-item.result c.loop-span.spans c.in_ok-spans-2.spans
    c.requires.good c.as_slice-span-items.ensures c.loop-span-test.true c.span-item.is c.requires.fits c.requires.values c.in_ok-spans-2.ensures (c.loop-span.invariant ends)

pub returns : goal.returns
returns c =
    λ ends at. left-done c.args.column.now (NullCell ∷ ends) c.args.taken.now c.as_slice-span-items.result.now c.loop-span.span-index c.loop-span.spans
    c.as_slice-span-items.ensures c.loop-span.auto.span-index-end c.loop-span-test.false (c.loop-span.invariant ends at)
