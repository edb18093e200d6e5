use Rattle.std.proofs.Common.{rules, ℕ, List, ap}
use Rattle.sr_box.specs.Points.{Rect}
use Rattle.sr_message.specs.declared.message.Holding.{Holding}
use Rattle.sr_session.specs.Resumable.{region_holding}
use Rattle.sr_client.proofs.Items.{map-item}
use Rattle.sr_client.proofs.resume.holdings_of.Goals as goal

abbrev holding : ℕ → ℕ → List Rect → Holding
holding table attrs rects = record { table = table; attrs = attrs; rects = rects }

pub loop-region-preserved : goal.loop-region-preserved
loop-region-preserved c =
    let region = c.region-item.result in
    map-item region_holding c.args.regions.now c.loop-region.region-index region c.loop-region.holdings c.push.new.self (holding region.table region.attrs c.in_ok-copy.field-0) (search rules) c.region-item.is
    (ap (holding region.table region.attrs) c.in_ok-copy.ensures) c.loop-region.invariant c.in_ok-push.ensures.pushed
