use Rattle.std.proofs.Common.{◌≡◌, false, arith}
use Rattle.std.specs.List.{list_any}
use Rattle.std.specs.Option.{is_some}
use Rattle.sr_box.specs.Cut.{rect_meet}
use Rattle.sr_union.proofs.Blocks.{none-more}
use Rattle.sr_union.proofs.Hulls.{meet_none}
use Rattle.sr_union.proofs.rects.meets_block.Goals.{else-may_meet-via-then-may_meet+else-meets_some, else-may_meet-via-else-may_meet}
use Rattle.sr_union.proofs.rects.meets_block.Goals as goal

pub loop-rect-preserved : goal.loop-rect-preserved
loop-rect-preserved c = none-more c.args.block.now c.args.rects.now c.loop-rect.rect-index c.rect-item.result c.loop-rect-test.true c.rect-item.is c.loop-rect.invariant apart
  where
    apart : list_any (λ q. is_some (rect_meet c.rect-item.result q)) c.args.block.now ≡ false
    apart = elim c.else-may_meet.branch [
      | else-may_meet-via-then-may_meet+else-meets_some w ↦ grind (arith, w.if-meets_some.false, w.meets_some.ensures)
      | else-may_meet-via-else-may_meet w ↦
          let off : c.may_meet.result ≡ false = grind (arith, w.if-may_meet.false) in
          meet_none c.hull_of-hull.result c.rect-item.result c.args.block.now (λ q inside. c.may_meet.ensures q off inside) c.hull_of-hull.ensures
    ]
