use Rattle.sr_union.proofs.Blocks.{hull-more}
use Rattle.sr_union.proofs.rects.hull_of.Goals as goal

pub loop-rect-preserved : goal.loop-rect-preserved
loop-rect-preserved c =
    hull-more c.loop-rect.hull c.with-hull.result c.args.rects.now c.loop-rect.rect-index c.rect-item.result c.loop-rect-test.true c.rect-item.is c.with-hull.ensures.more c.with-hull.ensures.has c.loop-rect.invariant
