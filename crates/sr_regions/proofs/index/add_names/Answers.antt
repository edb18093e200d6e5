use Rattle.std.proofs.Common.{◌≡◌, ◌<◌, length, subst}
use Rattle.std.proofs.Math.ListN.{get_or}
use Rattle.sr_regions.proofs.Telling.{names-next}
use Rattle.sr_regions.proofs.index.add_names.Goals as goal

pub loop-row-preserved : goal.loop-row-preserved
loop-row-preserved c =
    let i = c.loop-row.row-index in
    let row = c.row-item.result in
    let rows = c.as_slice-row-items.ensures in
    record {
      stays = λ k n named. c.add_name.ensures.stays k n (c.loop-row.invariant.stays k n named);
      named = names-next c.loop-row.index c.add_name.new.index c.args.number c.rank_of-place.result i c.args.region.now.rows row c.add_name.ensures.stays
          (subst (λ rs. i < length rs) rows c.loop-row-test.true) (subst (λ rs. row ≡ get_or rs i row) rows c.row-item.is) c.loop-row.invariant.named c.in_ok-add_name.ensures.added;
    }
