-- Nothing is left exactly where the rects lie within the others.
use Rattle.std.proofs.Common.{◌≡◌, ℕ, zero, suc, true, false, List, [], ◌∷◌, ◌+◌, refl, arith, ◌∙◌, sym, ◌↔◌}
use Rattle.std.specs.Prelude.{Bool, not, if◌then◌else◌, nat_eq}
use Rattle.std.specs.List.{list_all}
use Rattle.std.proofs.lemmas.Bool.Decides.{nat_tests}
use Rattle.sr_cell.specs.declared.table.Column.{Column}
use Rattle.sr_box.specs.Points.{Rect, in_rect, in_any, rect_fits, times}
use Rattle.sr_union.specs.Pieces.{IsMinus, IsWithin, HasOutside}
use Rattle.sr_box.specs.Corners.{have_first}
use Rattle.sr_union.proofs.Times.{in_any-times}
use Rattle.sr_union.proofs.Low.{low_point, low-point}

pub within_from : (cs : List Column) (a b left : List Rect) → have_first cs ≡ true → IsMinus cs a b left → list_all (rect_fits cs) left ≡ true → (left ≡ []) ↔ IsWithin cs a b
within_from cs a b [] h m f = ((λ e p q i. let x = m p q in let y = in_any-times a p in go (times a p) (in_any b p) x (sym y ∙ i)), λ w. refl)
  where
    go : (n : ℕ) (c : Bool) → 0 ≡ (if c then 0 else n) → not (nat_eq n 0) ≡ true → c ≡ true
    go n true x y = refl
    go n false x y = absurd (grind (arith, nat_tests, x, y))
within_from cs a b (r ∷ left) h m f = (
  (λ e. absurd (cc)),
  λ w. let lp = low-point cs r (grind arith) h in let x = m (low_point cs r) lp.1 in let y = in_any-times a (low_point cs r) in let z = w (low_point cs r) lp.1 in
      absurd (go (in_any b (low_point cs r)) (times left (low_point cs r)) (times a (low_point cs r)) (in_any a (low_point cs r)) (in_rect r (low_point cs r)) lp.0 x y z),
)
  where
    go : (c : Bool) (t n : ℕ) (i l : Bool) → l ≡ true → (if l then 1 else 0) + t ≡ (if c then 0 else n) → i ≡ not (nat_eq n 0) → (i ≡ true → c ≡ true) → ⊥
    go true t n i true e x y z = omega (arith, x)
    go false t zero i true e x y z = omega (arith, x)
    go false t (suc n) i true e x y z = let w = z (y ∙ grind (arith, nat_tests)) in grind (arith, w)
    go c t n i false e x y z = grind (arith, e)

-- where something is left there is a point of the rects that the others lack
pub outside_from : (cs : List Column) (a b left : List Rect) → have_first cs ≡ true → IsMinus cs a b left → list_all (rect_fits cs) left ≡ true → (left ≡ [] → ⊥) → HasOutside cs a b
outside_from cs a b [] h m f e = absurd (e refl)
outside_from cs a b (r ∷ left) h m f e =
    let lp = low-point cs r (grind arith) h in let x = m (low_point cs r) lp.1 in let y = in_any-times a (low_point cs r) in
    let z = go (in_any b (low_point cs r)) (times left (low_point cs r)) (times a (low_point cs r)) (in_any a (low_point cs r)) (in_rect r (low_point cs r)) lp.0 x y in
    (low_point cs r, lp.1, z.0, z.1)
  where
    go : (c : Bool) (t n : ℕ) (i l : Bool) → l ≡ true → (if l then 1 else 0) + t ≡ (if c then 0 else n) → i ≡ not (nat_eq n 0) → (i ≡ true) × (c ≡ false)
    go true t n i true e x y = absurd (omega (arith, x))
    go false t zero i true e x y = absurd (omega (arith, x))
    go false t (suc n) i true e x y = (y ∙ grind (arith, nat_tests), refl)
    go c t n i false e x y = absurd (grind (arith, e))
