use Rattle.std.proofs.Common.{◌∙◌, sym, ap}
use Rattle.std.specs.Prelude.{slice_set}
use Rattle.std.proofs.lemmas.List.Edits.{map_over_more}
use Rattle.sr_store.specs.Answered.{gives_way}
use Rattle.sr_store.proofs.give_way.give_way_each.Goals as goal

pub loop-region-preserved : goal.loop-region-preserved
loop-region-preserved c =
    let way = gives_way c.args.arrivals.now in
    let i = c.loop-region.region-index in
    ap (slice_set c.loop-region.regions i) (c.give_way.ensures ∙ ap way (sym c.region-item.is))
    ∙ map_over_more way c.args.regions.now c.loop-region.regions i c.region-item.result c.loop-region-test.true c.loop-region.invariant c.region-item.is
