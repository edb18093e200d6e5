use Rattle.std.proofs.Common.{◌++◌, ◌∙◌, refl, ap, append_assoc}
use Rattle.std.proofs.lemmas.Result.{on_ok_weaker}
use Rattle.sr_store.proofs.fit.Fitting.drop_for_limits.Goals as goal

pub returns : goal.returns
returns c = λ schema seen.
    let rows = c.in_ok-drop_for_rows.ensures schema seen in
    on_ok_weaker c.drop_for_regions.result
    (λ till. (
      rows.drops ++ till.drops,
      record {
        mid = c.drop_for_rows.new.self.regions;
        rows = rows.drops;
        regions = till.drops;
        for_rows = rows.dropped;
        for_regions = till.dropped;
        all = refl;
      },
      till.marks ∙ ap (λ ms. ms ++ till.drops) rows.marks ∙ append_assoc c.args.self.now.marks rows.drops till.drops,
    ))
    (c.drop_for_regions.ensures schema rows.seen)
