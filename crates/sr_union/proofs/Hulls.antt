-- Bounds of rects.
use Rattle.std.proofs.Common.{◌≡◌, ◌+◌, ℕ, zero, suc, Bool, true, false, List, [], ◌∷◌, ◌++◌, take, drop, refl, arith}
use Rattle.std.specs.Prelude.{ℤ, int_le, ◌&&◌, Option, Some, None, slice_get}
use Rattle.std.specs.Option.{is_some}
use Rattle.std.specs.List.{list_all, list_any}
use Rattle.std.proofs.lemmas.Int.{ints}
use Rattle.sr_box.specs.declared.span.Span.{Span}
use Rattle.sr_box.specs.declared.span.Span.TheVariants.{Full, Nums, Strs, Null}
use Rattle.sr_cell.specs.declared.cell.Cell.{Cell}
use Rattle.sr_cell.specs.Cells.{Row}
use Rattle.sr_box.specs.Spans.{in_span}
use Rattle.sr_box.specs.Points.{Rect, in_any, in_rect}
use Rattle.sr_box.specs.Cut.{meet, rect_meet, with_first}
use Rattle.sr_union.specs.declared.hull.Bound.{Bound}
use Rattle.sr_union.specs.declared.hull.Hull.{Hull}
use Rattle.sr_union.specs.Free.{span_at}
use Rattle.sr_union.specs.Pieces.{near}
use Rattle.sr_union.specs.Hulls.{in_bound, in_hull}

-- a bound with lesser and greater ends has what a bound has
pub wider : (b : Bound) (lo hi x y : ℤ) → x ≡ lo → y ≡ hi → int_le lo b.lo ≡ true → int_le b.hi hi ≡ true → (s : Span) → in_bound b s ≡ true → in_bound (record { lo = x; hi = y }) s ≡ true
wider b lo hi x y e f p q Full h = grind (arith, ints, e, f, p, q, h)
wider b lo hi x y e f p q (Nums c d) h = grind (arith, ints, e, f, p, q, h)
wider b lo hi x y e f p q (Strs c d) h = grind (arith, ints, e, f, p, q, h)
wider b lo hi x y e f p q Null h = grind (arith, ints, e, f, p, q, h)

pub hull_wider : (h i : Hull) → ((s : Span) → in_bound h.first s ≡ true → in_bound i.first s ≡ true) → ((s : Span) → in_bound h.second s ≡ true → in_bound i.second s ≡ true)
    → ((s : Span) → in_bound h.third s ≡ true → in_bound i.third s ≡ true) → (r : Rect) → in_hull h r ≡ true → in_hull i r ≡ true
hull_wider h i f g k r x =
    let a = f (span_at 0 r) (grind (arith, x)) in let b = g (span_at 1 r) (grind (arith, x)) in let c = k (span_at 2 r) (grind (arith, x)) in
    grind (arith, a, b, c)

none_first : (m : Option Span) (n : Option Rect) → is_some m ≡ false → is_some (with_first m n) ≡ false
none_first None n h = refl
none_first (Some m) n h = absurd (grind (arith, h))

none_rest : (m : Option Span) (n : Option Rect) → is_some n ≡ false → is_some (with_first m n) ≡ false
none_rest None n h = refl
none_rest (Some m) None h = refl
none_rest (Some m) (Some n) h = absurd (grind (arith, h))

-- rects whose spans of one column do not meet have nothing in common
pub meet_at : (k : ℕ) (r q : Rect) → is_some (meet (span_at k r) (span_at k q)) ≡ false → is_some (rect_meet r q) ≡ false
meet_at k [] [] h = absurd (grind (arith, h))
meet_at k [] (t ∷ q) h = refl
meet_at k (s ∷ r) [] h = refl
meet_at zero (s ∷ r) (t ∷ q) h = none_first (meet s t) (rect_meet r q) h
meet_at (suc k) (s ∷ r) (t ∷ q) h = none_rest (meet s t) (rect_meet r q) (meet_at k r q h)

-- lists of rects that lie in hulls of which no two rects meet do not meet
pub meet_none : (i : Hull) (r : Rect) (others : List Rect) → ((q : Rect) → in_hull i q ≡ true → is_some (rect_meet r q) ≡ false) → list_all (in_hull i) others ≡ true
    → list_any (λ q. is_some (rect_meet r q)) others ≡ false
meet_none i r [] f g = refl
meet_none i r (q ∷ others) f g =
    let one = f q (grind (arith, g)) in let ih = meet_none i r others f (grind (arith, g)) in grind (arith, one, ih)

pub lists_apart : (h i : Hull) (rects others : List Rect) → ((r q : Rect) → in_hull h r ≡ true → in_hull i q ≡ true → is_some (rect_meet r q) ≡ false)
    → list_all (in_hull h) rects ≡ true → list_all (in_hull i) others ≡ true → list_any (λ r. list_any (λ q. is_some (rect_meet r q)) others) rects ≡ false
lists_apart h i [] others f g k = refl
lists_apart h i (r ∷ rects) others f g k =
    let one = meet_none i r others (λ q x. f r q (grind (arith, g)) x) k in let ih = lists_apart h i rects others f (grind (arith, g)) k in grind (arith, one, ih)

pub all_both : (f : Rect → Bool) (rects more : List Rect) → list_all f rects ≡ true → list_all f more ≡ true → list_all f (rects ++ more) ≡ true
all_both f [] more g h = h
all_both f (r ∷ rects) more g h = let ih = all_both f rects more (grind (arith, g)) h in grind (arith, g, ih)

pub all_wider : (f g : Rect → Bool) → ((r : Rect) → f r ≡ true → g r ≡ true) → (rects : List Rect) → list_all f rects ≡ true → list_all g rects ≡ true
all_wider f g w [] h = refl
all_wider f g w (r ∷ rects) h = let one = w r (grind (arith, h)) in let ih = all_wider f g w rects (grind (arith, h)) in grind (arith, one, ih)

all_take : (f : Rect → Bool) (n : ℕ) (rects : List Rect) → list_all f rects ≡ true → list_all f (take n rects) ≡ true
all_take f zero rects h = refl
all_take f (suc n) [] h = refl
all_take f (suc n) (r ∷ rects) h = let ih = all_take f n rects (grind (arith, h)) in grind (arith, h, ih)

all_drop : (f : Rect → Bool) (n : ℕ) (rects : List Rect) → list_all f rects ≡ true → list_all f (drop n rects) ≡ true
all_drop f zero rects h = h
all_drop f (suc n) [] h = refl
all_drop f (suc n) (r ∷ rects) h = all_drop f n rects (grind (arith, h))

-- each rect of a list without one of them
pub all_without : (f : Rect → Bool) (index : ℕ) (rects : List Rect) → list_all f rects ≡ true → list_all f (take index rects ++ drop (index + 1) rects) ≡ true
all_without f index rects h = all_both f (take index rects) (drop (index + 1) rects) (all_take f index rects h) (all_drop f (index + 1) rects h)

-- no rect is near others that none meets
pub near_none : (others rects : List Rect) → list_any (λ r. list_any (λ q. is_some (rect_meet r q)) others) rects ≡ false → near others rects ≡ []
near_none others [] h = refl
near_none others (r ∷ rects) h =
    let off : list_any (λ q. is_some (rect_meet r q)) others ≡ false = grind (arith, h) in let ih = near_none others rects (grind (arith, h)) in
    rw (off, ih) refl

and_none : (a : Bool) → (a && false) ≡ false
and_none true = refl
and_none false = refl

-- a rect whose span of one column does not have a row's value does not have the row
pub out_at : (k : ℕ) (r : Rect) (row : Row) (v : Cell) → slice_get row k ≡ Some v → in_span (span_at k r) v ≡ false → in_rect r row ≡ false
out_at k [] [] v at out = absurd (cc)
out_at k [] (w ∷ row) v at out = refl
out_at k (s ∷ r) [] v at out = refl
out_at zero (s ∷ r) (w ∷ row) v at out =
    let same : w ≡ v = cc in
    rw (same, out) refl
out_at (suc k) (s ∷ r) (w ∷ row) v at out = rw (out_at k r row v at out) (and_none (in_span s w))

-- nor do rects of a hull that has no row like it
pub none_has : (h : Hull) (rects : List Rect) (row : Row) → ((r : Rect) → in_hull h r ≡ true → in_rect r row ≡ false) → list_all (in_hull h) rects ≡ true → in_any rects row ≡ false
none_has h [] row f g = refl
none_has h (r ∷ rects) row f g =
    let one = f r (grind (arith, g)) in let ih = none_has h rects row f (grind (arith, g)) in grind (arith, one, ih)
