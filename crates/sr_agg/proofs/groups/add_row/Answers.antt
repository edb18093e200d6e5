use Rattle.std.proofs.Common.{◌∙◌, sym, ap}
use Rattle.std.specs.Prelude.{slice_set}
use Rattle.std.proofs.lemmas.List.Edits.{map_over_more}
use Rattle.sr_agg.specs.declared.tally.Tally.{Tally}
use Rattle.sr_agg.specs.Tallies.{with_row}
use Rattle.sr_agg.proofs.groups.add_row.Goals as goal

pub loop-tally-preserved : goal.loop-tally-preserved
loop-tally-preserved c =
    let way = λ (tally : Tally). with_row tally c.args.row.now in
    let i = c.loop-tally.tally-index in
    ap (slice_set c.loop-tally.tallies i) (c.in_ok-add.ensures ∙ ap way (sym c.tally-item.is))
    ∙ map_over_more way c.args.tallies.now c.loop-tally.tallies i c.tally-item.result c.loop-tally-test.true c.loop-tally.invariant c.tally-item.is
