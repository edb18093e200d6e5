use Rattle.std.proofs.Common.{rules, ℕ, ap}
use Rattle.sr_explain.specs.declared.explanation.Victim.{Victim}
use Rattle.sr_region.specs.declared.region.Region.{Region}
use Rattle.sr_client.specs.Explaining.{victim_of}
use Rattle.sr_client.proofs.Items.{map-item}
use Rattle.sr_client.proofs.victims.left_of.Goals as goal

abbrev victim : Region → ℕ → Victim
victim region rows = record { table = region.table; attrs = region.attrs; stamp = region.stamp; rows = rows }

pub loop-region-preserved : goal.loop-region-preserved
loop-region-preserved c =
    let region = c.region-item.result in
    map-item victim_of c.args.regions.now c.loop-region.region-index region c.loop-region.left c.push.new.self (victim region c.len.result) (search rules) c.region-item.is
    (ap (victim region) c.len.ensures) c.loop-region.invariant c.in_ok-push.ensures.pushed
