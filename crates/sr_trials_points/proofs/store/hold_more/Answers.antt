use Rattle.std.proofs.Common.{◌≡◌, ◌∙◌, ap, true, [], refl, arith}
use Rattle.std.specs.List.{list_all}
use Rattle.std.proofs.lemmas.List.Elements.{All-nil}
use Rattle.sr_cell.specs.Attrs.{includes}
use Rattle.sr_cell.specs.Columns.{table_at}
use Rattle.sr_box.specs.Points.{rect_fits}
use Rattle.sr_query.specs.declared.query.Part.{Part}
use Rattle.sr_region.specs.Regions.{IsRowIn}
use Rattle.sr_trials_points.proofs.Stores.{ages_of, apart_one, first_fits, first_is, one_arrives}
use Rattle.sr_trials_points.proofs.store.hold_more.Goals as goal

pub answered-requires-clause-arrivals : goal.answered-requires-clause-arrivals
answered-requires-clause-arrivals c =
    let no = c.if-not-fits.false in
    let told = c.fits.ensures in
    let part = first_is c.as_slice.result.now _ c.index-as_slice-0.result (c.as_slice.ensures ∙ c.in_ok-parts.ensures) c.index-as_slice-0.is in
    let fits : list_all (rect_fits c.index-as_slice-0-2.result.columns) c.index-as_slice-0.result.rects ≡ true = grind (arith, no, told) in
    let fit = first_fits c.args.schema.now c.as_slice-2.result.now c.index-as_slice-0-2.result c.index-as_slice-0.result.rects (ages_of _ _) c.as_slice-2.ensures c.requires.there c.index-as_slice-0-2.is
    (ap (λ (p : Part). p.rects) part) fits in
    one_arrives c.args.schema.now c.as_slice-3.result.now c.in_ok-arrivals.arrivals _ _ [] (c.as_slice-3.ensures ∙ c.in_ok-parts.ensures) c.in_ok-arrivals.ensures
    c.requires.there c.requires.key fit (All-nil (IsRowIn (table_at c.args.schema.now 0).columns 3 (ages_of _ _))) refl

pub answered-requires-clause-apart : goal.answered-requires-clause-apart
answered-requires-clause-apart c =
    let part = first_is c.as_slice.result.now _ c.index-as_slice-0.result (c.as_slice.ensures ∙ c.in_ok-parts.ensures) c.index-as_slice-0.is in
    apart_one c.args.schema.now c.args.store.now.regions c.index-as_slice-0.result c.in_ok-arrivals.arrivals _ c.index-as_slice-0.result.rects c.in_ok-cover.cover
    c.in_ok-arrivals.ensures c.requires.store (ap (λ (p : Part). p.table) part) (ap (λ (p : Part). includes 3 p.need) part) (ap (λ (p : Part). p.rects) part) c.in_ok-cover.ensures
    (λ p point. c.meets.ensures.apart p c.if-meets.false)
