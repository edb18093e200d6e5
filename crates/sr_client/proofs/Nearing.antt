-- What the rects near a part decide about it.
use Rattle.std.proofs.Common.{◌≡◌, ℕ, ◌≤◌, ◌<◌, true, false, List, [], ◌∷◌, ◌++◌, length, refl, ◌∙◌, ap, subst, arith}
use Rattle.std.specs.Prelude.{Bool, not, ◌&&◌}
use Rattle.std.specs.List.{list_all}
use Rattle.std.proofs.lemmas.List.{append-nil}
use Rattle.std.proofs.lemmas.List.Folds.{list_all-append}
use Rattle.sr_store.proofs.Nearing.{grid_near}
use Rattle.sr_cell.specs.declared.table.Column.{Column}
use Rattle.sr_cell.specs.Cells.{Row}
use Rattle.sr_cell.specs.Columns.{is_point}
use Rattle.sr_box.specs.Points.{Rect, times, in_any, rect_fits}
use Rattle.sr_union.specs.Pieces.{near}
use Rattle.sr_box.specs.Corners.{have_first}
use Rattle.sr_union.specs.Grid.{grid, AreCutFrom}
use Rattle.sr_union.proofs.Count.{length-grid}
use Rattle.sr_union.proofs.Parts.{are_part}
use Rattle.sr_union.proofs.Meets.{near-in, near-are, near-fits}
use Rattle.sr_region.proofs.Sides.{cuts-inside}
use Rattle.sr_trim.specs.Left.{left_over}
use Rattle.sr_client.specs.Cutting.{grid_with}

-- they leave the same points of it
pub near-left : (rects cover : List Rect) (p : Row) → left_over rects (near rects cover) p ≡ left_over rects cover p
near-left rects cover p = go (in_any rects p) (near-in rects cover p)
  where
    go : (b : Bool) → (b ≡ true → in_any (near rects cover) p ≡ in_any cover p) → (b && not (in_any (near rects cover) p)) ≡ (b && not (in_any cover p))
    go true h = ap not (h refl)
    go false h = refl

near-cut : (cs : List Column) (rects cover : List Rect) → list_all (rect_fits cs) cover ≡ true → AreCutFrom cs (rects ++ cover) (near rects cover)
near-cut cs rects cover f = near-are cs (rects ++ cover) rects cover (subst (λ all. AreCutFrom cs (rects ++ all) cover) (append-nil cover) (are_part cs rects cover [] f))

pub near-cuts : (cs : List Column) (rects cover rest : List Rect) → list_all (rect_fits cs) rects ≡ true → list_all (rect_fits cs) cover ≡ true
    → AreCutFrom cs (rects ++ near rects cover) rest → AreCutFrom cs (rects ++ cover) rest
near-cuts cs rects cover rest f g cut = cuts-inside cs rects cover (near rects cover) rest f (near-cut cs rects cover g) cut

-- what is left has no more rects than the grid
pub rest-within : (cs : List Column) (rects cover rest : List Rect) → have_first cs ≡ true → list_all (rect_fits cs) rects ≡ true → list_all (rect_fits cs) cover ≡ true → AreCutFrom cs (rects ++ near rects cover) rest
    → ((p : Row) → is_point cs p ≡ true → times rest p ≤ 1) → (rects ≡ [] → rest ≡ []) → length rest ≤ grid_with cs cover rects
rest-within cs [] cover rest first fit covers cut once none = let e = ap length (none refl) in omega (arith, e)
rest-within cs (r ∷ rects) cover rest first fit covers cut once none =
    let given : list_all (rect_fits cs) ((r ∷ rects) ++ near (r ∷ rects) cover) ≡ true =
    list_all-append (rect_fits cs) (r ∷ rects) (near (r ∷ rects) cover) ∙ rw (fit, near-fits cs (r ∷ rects) cover covers) refl in
    let long = length-grid cs ((r ∷ rects) ++ near (r ∷ rects) cover) rest 1 first given cut once in
    let few = grid_near cs (r ∷ rects) cover fit covers in omega (arith, long, few)

pub over-within : (cs : List Column) (rects cover : List Rect) (room : ℕ) → list_all (rect_fits cs) rects ≡ true → list_all (rect_fits cs) cover ≡ true → (rects ≡ [] → ⊥) → room < grid cs (rects ++ near rects cover)
    → room < grid_with cs cover rects
over-within cs [] cover room fit covers some large = absurd (some refl)
over-within cs (r ∷ rects) cover room fit covers some large = let few = grid_near cs (r ∷ rects) cover fit covers in omega (arith, large, few)
