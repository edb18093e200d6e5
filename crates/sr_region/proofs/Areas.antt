-- Regions with more rows, and two regions put together.
use Rattle.std.proofs.Common.{◌≡◌, ℕ, ◌+◌, ◌≤◌, true, false, List, [], ◌∷◌, ◌++◌, refl, sym, ap, subst, ◌∙◌, arith}
use Rattle.std.specs.Prelude.{Bool, not, ◌&&◌, nat_eq}
use Rattle.std.specs.List.{list_all, All}
use Rattle.std.proofs.lemmas.Bool.Decides.{nat_tests}
use Rattle.std.proofs.lemmas.List.Folds.{list_all-append}
use Rattle.std.proofs.lemmas.List.Elements.{All-weaker}
use Rattle.sr_cell.specs.declared.table.Table.{Table}
use Rattle.sr_cell.specs.Cells.{Row}
use Rattle.sr_cell.specs.Columns.{is_point}
use Rattle.sr_model.specs.SortedRows.{ascend, with_row}
use Rattle.sr_box.specs.Points.{Rect, in_any, times, rect_fits, constrains_only}
use Rattle.sr_rows.specs.Places.{is_apart}
use Rattle.sr_rows.proofs.Places.{with_row-ascend}
use Rattle.sr_union.proofs.Times.{times-append, in_any-times}
use Rattle.sr_region.specs.declared.region.Region.{Region}
use Rattle.sr_region.specs.Regions.{rank, IsRowIn, IsArea, IsRegion, AreOfClass, joined}
use Rattle.sr_region.proofs.Parts.{in-first, in-second}
use Rattle.sr_region.proofs.Ordered.{All-with_row, All-with_rows, with_rows-ascend}

pub put-region : (t : Table) (r : Region) (row : Row) (place : ℕ) (rows : List Row) → place ≡ rank r.attrs r.key → rows ≡ with_row place r.rows row
    → IsRegion t r → IsRowIn t.columns r.attrs r.rects row → is_apart (rank r.attrs r.key) r.rows row ≡ true → IsRegion t (record r { rows = rows })
put-region t r row place rows at is h inside apart =
    let e : with_row (rank r.attrs r.key) r.rows row ≡ rows = ap (λ n. with_row n r.rows row) (sym at) ∙ sym is in
    record {
      area = h.area;
      rows = subst (All (IsRowIn t.columns r.attrs r.rects)) e (All-with_row (IsRowIn t.columns r.attrs r.rects) (rank r.attrs r.key) r.rows row h.rows inside);
      ascending = subst (λ xs. ascend (rank r.attrs r.key) xs ≡ true) e (with_row-ascend (rank r.attrs r.key) r.rows row h.ascending apart);
    }

append-some : (a b : List Rect) → (a ≡ [] → ⊥) → a ++ b ≡ [] → ⊥
append-some [] b some e = some refl
append-some (r ∷ a) b some e = cc

-- rects with no point in common
once-both : (a b : List Rect) (p : Row) → times a p ≤ 1 → times b p ≤ 1 → (in_any a p && in_any b p) ≡ false → times (a ++ b) p ≤ 1
once-both a b p h k apart = go (in_any a p) (in_any b p) (in_any-times a p) (in_any-times b p) apart (times-append a b p)
  where
    go : (x y : Bool) → x ≡ not (nat_eq (times a p) 0) → y ≡ not (nat_eq (times b p) 0) → (x && y) ≡ false → times (a ++ b) p ≡ times a p + times b p → times (a ++ b) p ≤ 1
    go true true d e none sum = absurd (grind arith)
    go true false d e none sum = let zero : times b p ≡ 0 = grind (arith, nat_tests, e) in omega (arith, h, zero, sum)
    go false y d e none sum = let zero : times a p ≡ 0 = grind (arith, nat_tests, d) in omega (arith, k, zero, sum)

joined-area : (t : Table) (r s : Region) → IsArea t r.key r.attrs r.rects → IsArea t s.key s.attrs s.rects → r.attrs ≡ s.attrs
    → ((p : Row) → is_point t.columns p ≡ true → (in_any r.rects p && in_any s.rects p) ≡ false) → IsArea t r.key r.attrs (r.rects ++ s.rects)
joined-area t r s h k same apart =
    let fit1 = h.fit in let fit2 = k.fit in let only1 = h.only in
    let only2 : list_all (constrains_only r.attrs 0) s.rects ≡ true = subst (λ attrs. list_all (constrains_only attrs 0) s.rects ≡ true) (sym same) k.only in
    record {
      key = h.key;
      has_key = h.has_key;
      own = h.own;
      some = append-some r.rects s.rects h.some;
      fit = list_all-append (rect_fits t.columns) r.rects s.rects ∙ grind (arith, fit1, fit2);
      only = list_all-append (constrains_only r.attrs 0) r.rects s.rects ∙ grind (arith, only1, only2);
      once = λ p point. once-both r.rects s.rects p (h.once p point) (k.once p point) (apart p point);
    }

pub joined-region : (t : Table) (r s : Region) → IsRegion t r → IsRegion t s → AreOfClass r s
    → ((p : Row) → is_point t.columns p ≡ true → (in_any r.rects p && in_any s.rects p) ≡ false)
    → list_all (is_apart (rank r.attrs r.key) r.rows) s.rows ≡ true → IsRegion t (joined r s)
joined-region t r s h k class apart keys =
    let P = IsRowIn t.columns r.attrs (r.rects ++ s.rects) in
    let rows2 : All (IsRowIn t.columns r.attrs s.rects) s.rows = subst (λ attrs. All (IsRowIn t.columns attrs s.rects) s.rows) (sym class.attrs) k.rows in
    let rank2 : rank s.attrs s.key ≡ rank r.attrs r.key = ap (λ attrs. rank attrs s.key) (sym class.attrs) ∙ ap (λ key. rank r.attrs key) (sym class.key) in
    record {
      area = joined-area t r s h.area k.area class.attrs apart;
      rows = All-with_rows P (rank r.attrs r.key) r.rows s.rows
          (All-weaker (IsRowIn t.columns r.attrs r.rects) P (λ row. in-first t.columns r.attrs r.rects s.rects row) r.rows h.rows)
          (All-weaker (IsRowIn t.columns r.attrs s.rects) P (λ row. in-second t.columns r.attrs r.rects s.rects row) s.rows rows2);
      ascending = with_rows-ascend (rank r.attrs r.key) r.rows s.rows h.ascending (subst (λ place. ascend place s.rows ≡ true) rank2 k.ascending) keys;
    }
