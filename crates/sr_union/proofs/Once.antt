-- Lists of rects in which each point lies once.
use Rattle.std.proofs.Common.{◌≡◌, ℕ, true, false, List, [], ◌∷◌, ◌++◌, ◌+◌, ◌*◌, ◌≤◌, ◌<◌, zero, suc, length, slice_index_or, refl, arith, ◌∙◌, sym, ap, subst}
use Rattle.std.specs.Prelude.{Bool, not, ◌||◌, if◌then◌else◌, nat_eq, Err, IsErrOf}
use Rattle.std.specs.List.{list_all}
use Rattle.std.proofs.lemmas.List.{append-nil}
use Rattle.std.proofs.lemmas.Bool.Decides.{nat_tests}
use Rattle.sr_cell.specs.declared.table.Column.{Column}
use Rattle.sr_cell.specs.Cells.{Row}
use Rattle.sr_cell.specs.Columns.{is_point}
use Rattle.sr_box.specs.Points.{Rect, in_rect, in_any, rect_fits, times}
use Rattle.sr_union.specs.Pieces.{IsMinus, IsOnce}
use Rattle.sr_box.specs.Corners.{have_first}
use Rattle.sr_union.specs.Grid.{others, grid, CutsAmong, AreCutFrom}
use Rattle.sr_union.proofs.Times.{times-append, in_any-times}
use Rattle.sr_union.proofs.Count.{length-grid}
use Rattle.sr_union.proofs.Monotone.{AllAmong, grid-le, are-among}
use Rattle.sr_union.proofs.Among.{AreCutFrom-append}
use Rattle.sr_union.proofs.Parts.{are_part}

pub in_any-append : (a b : List Rect) (p : Row) → in_any (a ++ b) p ≡ (in_any a p || in_any b p)
in_any-append [] b p = refl
in_any-append (r ∷ a) b p = let ih = in_any-append a b p in grind (arith, ih)

-- one rect more, without the points that are there
pub once_more : (cs : List Column) (done once left : List Rect) (r : Rect) → IsOnce cs done once → IsMinus cs (r ∷ []) once left → IsOnce cs (done ++ r ∷ []) (once ++ left)
once_more cs done once left r h m p e =
    times-append once left p ∙ rw (in_any-append done (r ∷ []) p) (go (in_any done p) (in_rect r p) (in_any once p) (times once p) (times left p) (h p e) (in_any-times once p) (m p e))
  where
    go : (d i o : Bool) (n l : ℕ) → n ≡ (if d then 1 else 0) → o ≡ not (nat_eq n 0) → l ≡ (if o then 0 else ((if i then 1 else 0) + 0)) → n + l ≡ (if d || (i || false) then 1 else 0)
    go true i true n l x y z = omega (arith, x, z)
    go true i false n l x y z = absurd (grind (arith, nat_tests, x, y))
    go false i true n l x y z = absurd (grind (arith, nat_tests, x, y))
    go false true false n l x y z = omega (arith, x, z)
    go false false false n l x y z = omega (arith, x, z)

pub once_le : (cs : List Column) (rects once : List Rect) → IsOnce cs rects once → (p : Row) → is_point cs p ≡ true → times once p ≤ 1
once_le cs rects once h p e = go (in_any rects p) (h p e)
  where
    go : (b : Bool) → times once p ≡ (if b then 1 else 0) → times once p ≤ 1
    go true x = omega (arith, x)
    go false x = omega (arith, x)

-- a list that has each point once, with cuts among those of the rects, is as long as their grid at most
pub once_few : (cs : List Column) (rects done once : List Rect) → have_first cs ≡ true → list_all (rect_fits cs) rects ≡ true → AreCutFrom cs rects once → IsOnce cs done once → length once ≤ grid cs rects
once_few cs rects done once d f h o = let l = length-grid cs rects once 1 d f h (once_le cs done once o) in omega (arith, l)

pub one_le : (r : Rect) (p : Row) → times (r ∷ []) p ≤ 1
one_le r p = go (in_rect r p)
  where
    go : (b : Bool) → (if b then 1 else 0) + 0 ≤ 1
    go true = omega arith
    go false = omega arith

-- rects with cuts among others' make no greater grid
pub grid_among : (cs : List Column) (given rects : List Rect) → AreCutFrom cs given rects → grid cs rects ≤ grid cs given
grid_among cs given rects h = grid-le cs rects given (are-among cs given rects h)

pub in_any-once : (cs : List Column) (rects once : List Rect) → IsOnce cs rects once → (p : Row) → is_point cs p ≡ true → in_any once p ≡ in_any rects p
in_any-once cs rects once h p e = in_any-times once p ∙ go (in_any rects p) (times once p) (h p e)
  where
    go : (b : Bool) (n : ℕ) → n ≡ (if b then 1 else 0) → not (nat_eq n 0) ≡ b
    go true n x = grind (arith, nat_tests, x)
    go false n x = grind (arith, nat_tests, x)

-- what is cut from rects that are cut from others is cut from those
among-trans : (cs : List Column) (r : Rect) (mid given : List Rect) → AllAmong cs mid given → CutsAmong cs r mid → CutsAmong cs r given
among-trans [] r mid given h k = tt
among-trans (c ∷ cs) [] mid given h k = tt
among-trans (c ∷ cs) (s ∷ r) mid given h k = ((λ v e. h.0 v (k.0 v e)), among-trans cs r (others mid) (others given) h.1 k.1)

pub are_trans : (cs : List Column) (given mid rects : List Rect) → AreCutFrom cs given mid → AreCutFrom cs mid rects → AreCutFrom cs given rects
are_trans cs given mid [] h k = tt
are_trans cs given mid (r ∷ rects) h k = (k.0, among-trans cs r mid given (are-among cs given mid h) k.1, are_trans cs given mid rects h k.2)

pub are_self : (cs : List Column) (rects : List Rect) → list_all (rect_fits cs) rects ≡ true → AreCutFrom cs rects rects
are_self cs rects f = subst (λ all. AreCutFrom cs all rects) (append-nil rects) (are_part cs [] rects [] f)

pub are_at : (cs : List Column) (given rects : List Rect) (i : ℕ) (d : Rect) → AreCutFrom cs given rects → i < length rects → AreCutFrom cs given (slice_index_or rects i d ∷ [])
are_at cs given [] i d h l = absurd (omega (arith, l))
are_at cs given (r ∷ rects) zero d h l = (h.0, h.1, tt)
are_at cs given (r ∷ rects) (suc i) d h l = are_at cs given rects i d h.2 (omega (arith, l))

-- a rect of the list, and what has been made of those before it
pub with_one : (cs : List Column) (rects once : List Rect) (i : ℕ) (d : Rect) → list_all (rect_fits cs) rects ≡ true → i < length rects → AreCutFrom cs rects once
    → AreCutFrom cs rects (slice_index_or rects i d ∷ once)
with_one cs rects once i d f l h = AreCutFrom-append cs rects (slice_index_or rects i d ∷ []) once (are_at cs rects rects i d (are_self cs rects f) l) h

pub step_grid : (cs : List Column) (rects once : List Rect) (i : ℕ) (r : Rect) → list_all (rect_fits cs) rects ≡ true → i < length rects → r ≡ slice_index_or rects i r → AreCutFrom cs rects once
    → grid cs (r ∷ once) ≤ grid cs rects
step_grid cs rects once i r f l e h = grid_among cs rects (r ∷ once) (subst (λ x. AreCutFrom cs rects (x ∷ once)) (sym e) (with_one cs rects once i r f l h))

-- what is left of one rect without the others is at most their grid
pub one_over : (cs : List Column) (one others : List Rect) (r : Rect) (limit : ℕ) → one ≡ r ∷ [] → ((m : ℕ) → ((p : Row) → is_point cs p ≡ true → times one p ≤ m) → limit < m * grid cs (one ++ others))
    → limit < grid cs (r ∷ others)
one_over cs one others r limit e h =
    let x = h 1 (λ p _. subst (λ l. times l p ≤ 1) (sym e) (one_le r p)) in let y = ap (λ l. grid cs (l ++ others)) e in omega (arith, x, y)

-- an error is the same whatever was asked for
pub err_same : {T U E : Type 0} (x y : E) → IsErrOf {T = T} (Err x) y → IsErrOf {T = U} (Err x) y
err_same x y e = let same : x ≡ y = cc in ap Err same
