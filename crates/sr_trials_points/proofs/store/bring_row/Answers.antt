use Rattle.std.proofs.Common.{◌≡◌, ◌∙◌, true, [], ◌∷◌, refl, arith}
use Rattle.std.specs.Prelude.{pos}
use Rattle.std.specs.List.{list_all}
use Rattle.std.proofs.lemmas.List.Elements.{All-nil, All-cons}
use Rattle.sr_cell.specs.declared.cell.Cell.TheVariants.{Num}
use Rattle.sr_cell.specs.Columns.{table_at}
use Rattle.sr_box.specs.Points.{rect_fits}
use Rattle.sr_region.specs.Regions.{IsRowIn}
use Rattle.sr_trials_points.proofs.Stores.{empty_store, empty_settled, ages_of, first_fits, one_arrives}
use Rattle.sr_trials_points.proofs.store.bring_row.Goals as goal

pub answered-requires-clause-store : goal.answered-requires-clause-store
answered-requires-clause-store c = empty_store c.args.schema.now c.args.store.now.regions c.requires.empty

pub answered-requires-clause-settled : goal.answered-requires-clause-settled
answered-requires-clause-settled c = λ yes. empty_settled c.args.schema.now c.args.store.now.regions c.requires.empty

pub answered-requires-clause-arrivals : goal.answered-requires-clause-arrivals
answered-requires-clause-arrivals c =
    let no = c.if-not-fits.false in
    let told = c.fits-2.ensures in
    let fits : list_all (rect_fits c.index-as_slice-0.result.columns) c.in_ok-ages.field-0 ≡ true = grind (arith, no, told) in
    let fit = first_fits c.args.schema.now c.as_slice.result.now c.index-as_slice-0.result c.in_ok-ages.field-0 (ages_of (pos 31) (pos 40)) c.as_slice.ensures c.requires.there c.index-as_slice-0.is c.in_ok-ages.ensures fits in
    let row = All-cons (IsRowIn (table_at c.args.schema.now 0).columns 3 (ages_of (pos 31) (pos 40))) (Num (pos 1) ∷ Num (pos 31) ∷ []) []
    ((Num (pos 1) ∷ Num (pos 31) ∷ Num (pos 5) ∷ [], c.requires.point, refl), refl) (All-nil (IsRowIn (table_at c.args.schema.now 0).columns 3 (ages_of (pos 31) (pos 40)))) in
    one_arrives c.args.schema.now c.as_slice-2.result.now c.in_ok-arrivals.arrivals (pos 31) (pos 40) ((Num (pos 1) ∷ Num (pos 31) ∷ []) ∷ []) (c.as_slice-2.ensures ∙ c.in_ok-parts.ensures) c.in_ok-arrivals.ensures
    c.requires.there c.requires.key fit row refl
