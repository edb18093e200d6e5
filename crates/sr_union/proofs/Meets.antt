-- What two lists of rects have in common.
use Rattle.std.proofs.Common.{cond, ◌≡◌, ℕ, true, false, List, [], ◌∷◌, ◌++◌, ◌+◌, ◌*◌, ◌≤◌, length, drop, drop_of_length-le, refl, arith, ◌∙◌, sym, ap, subst}
use Rattle.std.specs.Prelude.{Bool, ◌&&◌, ◌||◌, Option, Some, None, option_to_list, if◌then◌else◌}
use Rattle.std.specs.List.{list_all, list_any}
use Rattle.std.specs.Option.{is_some}
use Rattle.std.proofs.lemmas.List.{length-append, append-nil}
use Rattle.std.proofs.lemmas.List.Elements.{filter-append}
use Rattle.sr_cell.specs.declared.table.Column.{Column}
use Rattle.sr_cell.specs.declared.cell.Cell.{Cell}
use Rattle.sr_cell.specs.Cells.{Row}
use Rattle.sr_box.specs.declared.span.Span.{Span}
use Rattle.sr_box.specs.Points.{Rect, in_rect, in_any, rect_fits, times}
use Rattle.sr_box.specs.Cut.{meet, with_first, rect_meet, in_some}
use Rattle.sr_box.proofs.Fits.{maybe_fits, meet-fits}
use Rattle.sr_box.proofs.Meets.{rect_meet-is, rect_meet-apart}
use Rattle.sr_union.specs.Pieces.{meet_each, meet_all, near}
use Rattle.sr_union.specs.Grid.{has_cut, others, CutsAmong, AreCutFrom}
use Rattle.sr_union.proofs.Cuts.{maybe_cut, meet-cut}
use Rattle.sr_union.proofs.Times.{times-append}
use Rattle.sr_union.proofs.Among.{AreCutFrom-append, among_either}
use Rattle.sr_union.proofs.Parts.{are_part}

some-times : (m : Option Rect) (p : Row) → times (option_to_list m) p ≡ (if in_some m p then 1 else 0)
some-times None p = refl
some-times (Some r) p = omega arith

meet_each-times : (r : Rect) (qs : List Rect) (p : Row) → times (meet_each r qs) p ≡ (if in_rect r p then 1 else 0) * times qs p
meet_each-times r [] p = grind arith
meet_each-times r (q ∷ qs) p =
    let ih = meet_each-times r qs p in let one = some-times (rect_meet r q) p in let is = rect_meet-is r q p in
    times-append (option_to_list (rect_meet r q)) (meet_each r qs) p ∙ rw (ih, one, is) (go (in_rect r p) (in_rect q p) (times qs p))
  where
    go : (a b : Bool) (n : ℕ) → (if a && b then 1 else 0) + (if a then 1 else 0) * n ≡ (if a then 1 else 0) * ((if b then 1 else 0) + n)
    go true true n = omega arith
    go true false n = omega arith
    go false b n = omega arith

pub meet_all-times : (rs qs : List Rect) (p : Row) → times (meet_all rs qs) p ≡ times rs p * times qs p
meet_all-times [] qs p = grind arith
meet_all-times (r ∷ rs) qs p =
    let ih = meet_all-times rs qs p in let one = meet_each-times r qs p in
    times-append (meet_each r qs) (meet_all rs qs) p ∙ rw (ih, one) (grind arith)

some-length : (m : Option Rect) → length (option_to_list m) ≤ 1
some-length None = omega arith
some-length (Some r) = omega arith

meet_each-length : (r : Rect) (qs : List Rect) → length (meet_each r qs) ≤ length qs
meet_each-length r [] = omega arith
meet_each-length r (q ∷ qs) =
    let ih = meet_each-length r qs in let one = some-length (rect_meet r q) in let l = length-append (option_to_list (rect_meet r q)) (meet_each r qs) in omega (arith, ih, one, l)

pub meet_all-length : (rs qs : List Rect) → length (meet_all rs qs) ≤ length rs * length qs
meet_all-length [] qs = omega arith
meet_all-length (r ∷ rs) qs =
    let ih = meet_all-length rs qs in let one = meet_each-length r qs in let l = length-append (meet_each r qs) (meet_all rs qs) in grind (arith, ih, one, l)

rect_meet-are : (cs : List Column) (given : List Rect) (r q : Rect) → rect_fits cs r ≡ true → rect_fits cs q ≡ true → CutsAmong cs r given → CutsAmong cs q given
    → AreCutFrom cs given (option_to_list (rect_meet r q))
rect_meet-are [] given [] [] f g h k = (refl, tt, tt)
rect_meet-are [] given [] (t ∷ q) f g h k = tt
rect_meet-are [] given (s ∷ r) q f g h k = absurd (grind arith)
rect_meet-are (c ∷ cs) given [] q f g h k = absurd (grind arith)
rect_meet-are (c ∷ cs) given (s ∷ r) [] f g h k = tt
rect_meet-are (c ∷ cs) given (s ∷ r) (t ∷ q) f g h k =
    go (meet s t) (rect_meet r q) (meet-fits c.kind c.lo c.hi c.nullable s t (grind arith) (grind arith)) (λ v e. meet-cut c.kind c.lo c.hi c.nullable s t v e)
    (rect_meet-are cs (others given) r q (grind arith) (grind arith) h.1 k.1)
  where
    go : (m : Option Span) (n : Option Rect) → maybe_fits c.kind c.lo c.hi c.nullable m ≡ true → ((v : Cell) → maybe_cut c.kind c.lo c.hi c.nullable m v ≡ true → (has_cut c.kind c.lo c.hi c.nullable s v || has_cut c.kind c.lo c.hi c.nullable t v) ≡ true)
        → AreCutFrom cs (others given) (option_to_list n) → AreCutFrom (c ∷ cs) given (option_to_list (with_first m n))
    go None n e x y = tt
    go (Some m) None e x y = tt
    go (Some m) (Some n) e x y = let fit = y.0 in (grind (arith, e, fit), ((λ v is. among_either c given s t v (x v is) (h.0 v) (k.0 v)), y.1), tt)

meet_each-are : (cs : List Column) (given : List Rect) (r : Rect) (qs : List Rect) → rect_fits cs r ≡ true → CutsAmong cs r given → AreCutFrom cs given qs → AreCutFrom cs given (meet_each r qs)
meet_each-are cs given r [] f h k = tt
meet_each-are cs given r (q ∷ qs) f h k =
    AreCutFrom-append cs given (option_to_list (rect_meet r q)) (meet_each r qs) (rect_meet-are cs given r q f k.0 h k.1) (meet_each-are cs given r qs f h k.2)

meet_all-each : (cs : List Column) (given rs qs : List Rect) → AreCutFrom cs given rs → AreCutFrom cs given qs → AreCutFrom cs given (meet_all rs qs)
meet_all-each cs given [] qs h k = tt
meet_all-each cs given (r ∷ rs) qs h k = AreCutFrom-append cs given (meet_each r qs) (meet_all rs qs) (meet_each-are cs given r qs h.0 h.1 k) (meet_all-each cs given rs qs h.2 k)

pub meet_all-are : (cs : List Column) (rs qs : List Rect) → list_all (rect_fits cs) rs ≡ true → list_all (rect_fits cs) qs ≡ true → AreCutFrom cs (rs ++ qs) (meet_all rs qs)
meet_all-are cs rs qs f g =
    meet_all-each cs (rs ++ qs) rs qs (are_part cs [] rs qs f) (subst (λ all. AreCutFrom cs (rs ++ all) qs) (append-nil qs) (are_part cs rs qs [] g))

-- where the loop over the rects ends
pub end_all : (both items rects qs : List Rect) (i : ℕ) → both ++ meet_all (drop i items) qs ≡ meet_all items qs → length items ≤ i → items ≡ rects → both ≡ meet_all rects qs
end_all both items rects qs i h l e =
    let none = drop_of_length-le items l in sym (append-nil both) ∙ (ap (λ xs. both ++ meet_all xs qs) (sym none) ∙ (h ∙ ap (λ xs. meet_all xs qs) e))

pub apart_one : (r : Rect) (qs : List Rect) (p : Row) → list_any (λ q. is_some (rect_meet r q)) qs ≡ false → (in_rect r p && in_any qs p) ≡ false
apart_one r [] p h = grind arith
apart_one r (q ∷ qs) p h =
    let ih = apart_one r qs p (grind (arith, h)) in let one = rect_meet-apart r q p (grind (arith, h)) in grind (arith, ih, one)

-- rects of which none meets one of the others have no point in common with them
pub apart_all : (rs qs : List Rect) (p : Row) → list_any (λ r. list_any (λ q. is_some (rect_meet r q)) qs) rs ≡ false → (in_any rs p && in_any qs p) ≡ false
apart_all [] qs p h = grind arith
apart_all (r ∷ rs) qs p h =
    let ih = apart_all rs qs p (grind (arith, h)) in let one = apart_one r qs p (grind (arith, h)) in grind (arith, ih, one)

pub near_append : (others a b : List Rect) → near others (a ++ b) ≡ near others a ++ near others b
near_append others a b = filter-append (λ r. list_any (λ q. is_some (rect_meet r q)) others) a b

pub near_cons : (others : List Rect) (r : Rect) (rects : List Rect) → near others (r ∷ rects) ≡ near others (r ∷ []) ++ near others rects
near_cons others r rects = near_append others (r ∷ []) rects

-- the near rects have what the rects and the others have in common
pub near-in : (others rects : List Rect) (p : Row) → in_any others p ≡ true → in_any (near others rects) p ≡ in_any rects p
near-in others [] p h = refl
near-in others (r ∷ rects) p h =
    go (list_any (λ q. is_some (rect_meet r q)) others) (apart_one r others p) (near-in others rects p h)
  where
    go : (b : Bool) → (b ≡ false → (in_rect r p && in_any others p) ≡ false) → in_any (near others rects) p ≡ in_any rects p
        → in_any (cond b (r ∷ near others rects) (near others rects)) p ≡ (in_rect r p || in_any rects p)
    go true a ih = grind (arith, ih)
    go false a ih = let x = a refl in grind (arith, ih, x, h)

pub near-fits : (cs : List Column) (others rects : List Rect) → list_all (rect_fits cs) rects ≡ true → list_all (rect_fits cs) (near others rects) ≡ true
near-fits cs others [] f = refl
near-fits cs others (r ∷ rects) f = go (list_any (λ q. is_some (rect_meet r q)) others) (near-fits cs others rects (grind (arith, f)))
  where
    go : (b : Bool) → list_all (rect_fits cs) (near others rects) ≡ true → list_all (rect_fits cs) (cond b (r ∷ near others rects) (near others rects)) ≡ true
    go true ih = grind (arith, ih, f)
    go false ih = ih

pub near-are : (cs : List Column) (given others rects : List Rect) → AreCutFrom cs given rects → AreCutFrom cs given (near others rects)
near-are cs given others [] h = tt
near-are cs given others (r ∷ rects) h = go (list_any (λ q. is_some (rect_meet r q)) others) (near-are cs given others rects h.2)
  where
    go : (b : Bool) → AreCutFrom cs given (near others rects) → AreCutFrom cs given (cond b (r ∷ near others rects) (near others rects))
    go true ih = (h.0, h.1, ih)
    go false ih = ih
