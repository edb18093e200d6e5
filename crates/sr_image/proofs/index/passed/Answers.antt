use Rattle.std.proofs.Common.{◌≡◌, ℕ, true, sym, ap, ◌∙◌}
use Rattle.sr_image.specs.declared.index.Level.{Level}
use Rattle.sr_image.specs.Index.{are_under, found_at}
use Rattle.sr_image.proofs.Covering.{passed-on, all-at}
use Rattle.sr_image.proofs.index.passed.Goals as goal

pub returns-then-level-order-clause-none : goal.returns-then-level-order-clause-none
returns-then-level-order-clause-none c =
    λ rects levels.
    let under : are_under rects c.level-item.result.size c.level-item.result.hulls.items c.args.order.now ≡ true =
    ap (λ (level : Level). are_under rects level.size level.hulls.items c.args.order.now) c.level-item.is
    ∙ all-at (λ (level : Level). are_under rects level.size level.hulls.items c.args.order.now) c.args.levels.now c.loop-level.level-index c.level-item.result levels c.loop-level-test.true in
    passed-on (found_at c.args.sought.now rects) c.args.order.now c.args.at c.level-item.result.size (c.is_passed.ensures.none rects c.args.order.now c.if-is_passed.true under)
