-- What the tests need of regions of one range of ages.
use Rattle.std.proofs.Common.{◌≡◌, ◌∙◌, ℤ, zero, suc, ◌+◌, ◌≤◌, true, false, List, [], ◌∷◌, length, refl, sym, ap, subst, arith}
use Rattle.std.specs.Prelude.{Option, Some, None, Result, Ok, Err, IfOk, IfSome, OnOk}
use Rattle.std.specs.List.{list_all}
use Rattle.std.specs.Result.{result_and}
use Rattle.sr_cell.specs.declared.list.NoMemory.{NoMemory}
use Rattle.sr_cell.specs.declared.table.Column.{Column}
use Rattle.sr_cell.specs.declared.table.Table.{Table}
use Rattle.sr_cell.specs.Attrs.{has_column}
use Rattle.sr_cell.specs.Cells.{Row}
use Rattle.sr_cell.proofs.ColumnSets.{has_column-none, has_column-shifted}
use Rattle.sr_box.specs.declared.span.Span.{Span}
use Rattle.sr_box.specs.declared.span.Span.TheVariants.{Full, Nums}
use Rattle.sr_box.specs.Points.{Rect, times, rect_fits, constrains_only}
use Rattle.sr_model.specs.SortedRows.{ascend, with_row}
use Rattle.sr_union.proofs.Once.{one_le}
use Rattle.sr_region.specs.declared.region.Region.{Region}
use Rattle.sr_region.specs.Regions.{rank, AreColumnsOf, IsArea}
use Rattle.sr_region.specs.Halves.{IsInside, IsOutside}

two_columns : (columns : List Column) (s u : Span) (r : Rect) → list_all (rect_fits columns) ((s ∷ u ∷ r) ∷ []) ≡ true → 2 ≤ length columns
two_columns [] s u r fit = absurd (grind (arith, fit))
two_columns (c ∷ []) s u r fit = absurd (grind (arith, fit))
two_columns (c ∷ d ∷ columns) s u r fit = omega arith

-- a table whose rects have two spans or more has the first two columns
pub first_two : (t : Table) (s u : Span) (r : Rect) → list_all (rect_fits t.columns) ((s ∷ u ∷ r) ∷ []) ≡ true → AreColumnsOf t 3
first_two t s u r fit zero has = let two = two_columns t.columns s u r fit in omega (arith, two)
first_two t s u r fit (suc zero) has = let two = two_columns t.columns s u r fit in omega (arith, two)
first_two t s u r fit (suc (suc c)) has = absurd (let wrong : true ≡ false = sym has ∙ none in cc)
  where
    same : suc (suc c) ≡ 2 + c
    same = omega arith

    none : has_column 3 (suc (suc c)) ≡ false
    none = ap (has_column 3) same ∙ (has_column-shifted 3 2 c ∙ has_column-none c)

-- the points of one range, under both columns
pub one_area : (t : Table) (lo hi : ℤ) (rects : List Rect) → 0 ≡ t.key → rects ≡ (Full ∷ Nums lo hi ∷ []) ∷ [] → list_all (rect_fits t.columns) rects ≡ true → IsArea t 0 3 rects
one_area t lo hi rects key is fit = record {
  key = key;
  has_key = refl;
  own = first_two t Full (Nums lo hi) [] (subst (λ rs. list_all (rect_fits t.columns) rs ≡ true) is fit);
  some = λ none. absurd (cc (none, is));
  fit = fit;
  only = subst (λ rs. list_all (constrains_only 3 0) rs ≡ true) (sym is) refl;
  once = λ p point. subst (λ rs. times rs p ≤ 1) (sym is) (one_le (Full ∷ Nums lo hi ∷ []) p);
}

-- a new region of these rects
abbrev pub new_of : List Rect → Region
new_of rects = record { table = 2; key = 0; attrs = 3; stamp = 7; rects = rects; rows = [] }

-- what holds with one row holds once it is put
pub with_one : (P : Region → Type 0) (rects : List Rect) (row : Row) (empty one : Region) (put : Result (Unit {0}) NoMemory) (result : Result Region NoMemory)
    → empty ≡ new_of rects → OnOk put (one ≡ record empty { rows = with_row (rank empty.attrs empty.key) empty.rows row })
    → result ≡ result_and put (Ok one) → P (record (new_of rects) { rows = row ∷ [] }) → IfOk result P
with_one P rects row empty one (Ok u) result is put and has =
    let same = put ∙ ap (λ (g : Region). let more : Region = record g { rows = with_row (rank g.attrs g.key) g.rows row } in more) is in
    subst (λ r. IfOk r P) (sym and) (subst P (sym same) has)
with_one P rects row empty one (Err e) result is put and has = subst (λ r. IfOk r P) (sym and) tt

pub class_inside : (t : Table) (whole : Region) (cut : List Rect) (half : Option Region) → IsInside t whole cut half → whole.attrs ≡ 3 → whole.key ≡ 0
    → IfSome half (λ h. (h.attrs ≡ 3) × (h.key ≡ 0))
class_inside t whole cut None is attrs key = tt
class_inside t whole cut (Some half) is attrs key = (is.class.attrs ∙ attrs, is.class.key ∙ key)

pub order_outside : (t : Table) (whole : Region) (cut : List Rect) (half : Option Region) → IsOutside t whole cut half → whole.attrs ≡ 3 → whole.key ≡ 0
    → IfSome half (λ h. ascend (rank 3 0) h.rows ≡ true)
order_outside t whole cut None is attrs key = tt
order_outside t whole cut (Some half) is attrs key =
    ap (λ a. ascend (rank a 0) half.rows) (sym (is.class.attrs ∙ attrs)) ∙ ap (λ k. ascend (rank half.attrs k) half.rows) (sym (is.class.key ∙ key)) ∙ is.region.ascending
