-- Rows of some columns, and the points that have these cells.
use Rattle.std.proofs.Common.{◌≡◌, ℕ, true, List, [], ◌∷◌, ◌++◌, refl, ◌∙◌, arith}
use Rattle.std.specs.Prelude.{◌||◌}
use Rattle.std.specs.List.{list_all}
use Rattle.sr_cell.specs.declared.table.Column.{Column}
use Rattle.sr_cell.specs.Attrs.{project}
use Rattle.sr_cell.specs.Cells.{Row}
use Rattle.sr_cell.specs.Columns.{is_point}
use Rattle.sr_cell.proofs.Columns.{point-length}
use Rattle.sr_box.specs.Points.{Rect, in_any, rect_fits, constrains_only}
use Rattle.sr_box.proofs.Projected.{parts_decide}
use Rattle.sr_union.proofs.Inner.{fits_length}
use Rattle.sr_region.specs.Regions.{is_in, IsRowIn}

-- a point lies in the rects where its cells do
pub is_in-point : (cs : List Column) (attrs : ℕ) (rects : List Rect) (p : Row) → list_all (rect_fits cs) rects ≡ true → list_all (constrains_only attrs 0) rects ≡ true → is_point cs p ≡ true
    → is_in attrs rects (project attrs p) ≡ in_any rects p
is_in-point cs attrs [] p fit only point = refl
is_in-point cs attrs (r ∷ rects) p fit only point =
    let ih = is_in-point cs attrs rects p (grind arith) (grind arith) point in
    let wide = fits_length cs r (grind arith) in
    let long = point-length cs p point in
    let one = parts_decide attrs r p (grind arith) (omega (arith, wide, long)) in
    rw (ih, one) refl

pub is_in-append : (attrs : ℕ) (a b : List Rect) (cells : Row) → is_in attrs (a ++ b) cells ≡ (is_in attrs a cells || is_in attrs b cells)
is_in-append attrs [] b cells = refl
is_in-append attrs (r ∷ a) b cells = let ih = is_in-append attrs a b cells in grind (arith, ih)

pub in-first : (cs : List Column) (attrs : ℕ) (a b : List Rect) (cells : Row) → IsRowIn cs attrs a cells → IsRowIn cs attrs (a ++ b) cells
in-first cs attrs a b cells h = let inside = h.1 in (h.0, is_in-append attrs a b cells ∙ grind (arith, inside))

pub in-second : (cs : List Column) (attrs : ℕ) (a b : List Rect) (cells : Row) → IsRowIn cs attrs b cells → IsRowIn cs attrs (a ++ b) cells
in-second cs attrs a b cells h = let inside = h.1 in (h.0, is_in-append attrs a b cells ∙ grind (arith, inside))
