-- A rect that fits its columns has a point: its low corner.
use Rattle.std.proofs.Common.{◌≡◌, true, List, [], ◌∷◌, refl, arith}
use Rattle.std.specs.Prelude.{ℤ, Bool}
use Rattle.std.specs.List.{list_all}
use Rattle.std.proofs.lemmas.Int.{ints}
use Rattle.sr_cell.specs.declared.cell.Cell.{Cell}
use Rattle.sr_cell.specs.declared.cell.Cell.TheVariants.{Num, Str, Null as NullCell}
use Rattle.sr_cell.specs.declared.table.Column.{Column}
use Rattle.sr_cell.specs.declared.table.Kind.{Kind}
use Rattle.sr_cell.specs.declared.table.Kind.TheVariants.{Num as Numbers, Str as Texts}
use Rattle.sr_cell.specs.Cells.{Row}
use Rattle.sr_cell.specs.Columns.{in_kind, is_point}
use Rattle.sr_cell.proofs.Order.{text_le-refl}
use Rattle.sr_box.specs.declared.span.Span.{Span}
use Rattle.sr_box.specs.declared.span.Span.TheVariants.{Full, Nums, Strs, Null}
use Rattle.sr_box.specs.Spans.{in_span, fits_kind}
use Rattle.sr_box.specs.Points.{Rect, in_rect, in_any, rect_fits, HasPoint}
use Rattle.sr_box.specs.Corners.{first_value, have_first}

unfoldable pub low_of : Kind → ℤ → Span → Cell
low_of k low Full = first_value k low
low_of k low (Nums lo hi) = Num lo
low_of k low (Strs lo hi) = Str lo
low_of k low Null = NullCell

pub low-in : (k : Kind) (low high : ℤ) (nu : Bool) (s : Span) → fits_kind k low high nu s ≡ true → in_kind k low high nu (first_value k low) ≡ true → (in_span s (low_of k low s) ≡ true) × (in_kind k low high nu (low_of k low s) ≡ true)
unfolding low_of
low-in k low high nu Full f h = (refl, h)
low-in Numbers low high nu (Nums lo hi) f h = (grind (arith, ints), grind (arith, ints))
low-in Texts low high nu (Nums lo hi) f h = absurd (grind arith)
low-in Numbers low high nu (Strs lo hi) f h = absurd (grind arith)
low-in Texts low high nu (Strs lo hi) f h = let r = text_le-refl lo in (grind (arith, r), grind arith)
low-in Numbers low high nu Null f h = (refl, f)
low-in Texts low high nu Null f h = (refl, f)

unfoldable pub low_point : List Column → Rect → Row
low_point [] r = []
low_point (c ∷ cs) [] = []
low_point (c ∷ cs) (s ∷ r) = low_of c.kind c.lo s ∷ low_point cs r

pub low-point : (cs : List Column) (r : Rect) → rect_fits cs r ≡ true → have_first cs ≡ true → (in_rect r (low_point cs r) ≡ true) × (is_point cs (low_point cs r) ≡ true)
unfolding low_point
low-point [] [] f h = (refl, refl)
low-point [] (s ∷ r) f h = absurd (grind arith)
low-point (c ∷ cs) [] f h = absurd (grind arith)
low-point (c ∷ cs) (s ∷ r) f h = let one = low-in c.kind c.lo c.hi c.nullable s (grind arith) (grind arith) in let more = low-point cs r (grind arith) (grind arith) in
    let a = one.0 in let b = one.1 in let d = more.0 in let e = more.1 in (grind (arith, a, d), grind (arith, b, e))

-- rects that fit their columns have a point, unless there are none
pub has_point : (columns : List Column) (rects : List Rect) → (rects ≡ [] → ⊥) → list_all (rect_fits columns) rects ≡ true → have_first columns ≡ true → HasPoint columns (in_any rects)
has_point columns [] some fit first = absurd (some refl)
has_point columns (r ∷ rects) some fit first =
    let low = low-point columns r (grind arith) first in let inside = low.0 in (low_point columns r, low.1, grind (arith, inside))
