use Rattle.std.proofs.Common.{◌≡◌, ◌∷◌, [], ◌∙◌, ◌↔◌, true, false, ap, sym, subst}
use Rattle.std.specs.Prelude.{IfOk, IsTrue}
use Rattle.std.specs.List.{list_all}
use Rattle.std.proofs.lemmas.Result.{IfOk-weaker}
use Rattle.sr_cell.specs.Columns.{table_at}
use Rattle.sr_box.specs.Points.{rect_fits}
use Rattle.sr_union.specs.Pieces.{near, IsWithin, HasOutside}
use Rattle.sr_union.proofs.Meets.{near-fits}
use Rattle.sr_store.specs.Making.{wider_both}
use Rattle.sr_store.proofs.Fits.{both_fit}
use Rattle.sr_store.proofs.Nearing.{within_near, outside_near, fit_one}
use Rattle.sr_store.proofs.absorb.is_covered.Goals as goal

pub within-requires-clause-self_fits : goal.within-requires-clause-self_fits
within-requires-clause-self_fits c =
    let cs = (table_at c.args.schema.now c.args.region.now.table).columns in
    subst (λ t. list_all (rect_fits t.columns) c.in_ok-one.one ≡ true) (sym c.table_at-table.ensures.found)
    (subst (λ rects. list_all (rect_fits cs) rects ≡ true) (sym c.in_ok-one.ensures) (fit_one cs c.args.rect.now c.requires.fits))

pub within-requires-clause-other_fits : goal.within-requires-clause-other_fits
within-requires-clause-other_fits c =
    let cs = (table_at c.args.schema.now c.args.region.now.table).columns in
    let all = wider_both c.args.still.now c.args.news.now c.args.region.now in
    let fits = near-fits cs c.in_ok-one.one all (both_fit c.args.schema.now c.args.still.now c.args.news.now c.args.region.now c.requires.still c.requires.news) in
    subst (λ t. list_all (rect_fits t.columns) c.in_ok-found.found ≡ true) (sym c.table_at-table.ensures.found)
    (subst (λ rects. list_all (rect_fits cs) rects ≡ true) (sym c.in_ok-found.ensures) fits)

pub returns-clause-within : goal.returns-clause-within
returns-clause-within c =
    let cs = (table_at c.args.schema.now c.args.region.now.table).columns in
    let one = c.in_ok-one.one in
    let r = c.args.rect.now in
    let all = wider_both c.args.still.now c.args.news.now c.args.region.now in
    let found = c.in_ok-found.ensures ∙ ap (λ rects. near rects all) c.in_ok-one.ensures in
    let within = subst (λ t. IfOk c.within.result (λ yes. IsTrue yes ↔ IsWithin t.columns one c.in_ok-found.found)) c.table_at-table.ensures.found c.within.ensures.within in
    IfOk-weaker c.within.result (λ yes. IsTrue yes ↔ IsWithin cs one c.in_ok-found.found) (λ yes. yes ≡ true → IsWithin cs (r ∷ []) all)
    (λ yes iff e. (within_near cs (r ∷ []) all).0 (subst (IsWithin cs (r ∷ [])) found (subst (λ rects. IsWithin cs rects c.in_ok-found.found) c.in_ok-one.ensures (iff.0 e))))
    within

pub returns-clause-outside : goal.returns-clause-outside
returns-clause-outside c =
    let cs = (table_at c.args.schema.now c.args.region.now.table).columns in
    let one = c.in_ok-one.one in
    let r = c.args.rect.now in
    let all = wider_both c.args.still.now c.args.news.now c.args.region.now in
    let found = c.in_ok-found.ensures ∙ ap (λ rects. near rects all) c.in_ok-one.ensures in
    let outside = subst (λ t. IfOk c.within.result (λ yes. yes ≡ false → HasOutside t.columns one c.in_ok-found.found)) c.table_at-table.ensures.found c.within.ensures.outside in
    IfOk-weaker c.within.result (λ yes. yes ≡ false → HasOutside cs one c.in_ok-found.found) (λ yes. yes ≡ false → HasOutside cs (r ∷ []) all)
    (λ yes is e. outside_near cs (r ∷ []) all (subst (HasOutside cs (r ∷ [])) found (subst (λ rects. HasOutside cs rects c.in_ok-found.found) c.in_ok-one.ensures (is e))))
    outside
