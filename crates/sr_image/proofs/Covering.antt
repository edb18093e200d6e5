-- What a hull covers is not missed, and what it tells of a block.
use Rattle.std.proofs.Common.{◌≡◌, ℕ, zero, suc, ◌+◌, ◌*◌, ◌<◌, ◌≤◌, Bool, true, false, List, [], ◌∷◌, ◌++◌, Some, None, length, take, drop, get_or, Bor, ◌-◌, refl, sym, ap, ◌∙◌, append_assoc, length-append, take-append-drop, inl, inr, arith}
use Rattle.std.specs.Prelude.{ℤ, ◌&&◌, ◌||◌, ◌⊎◌, not, nat_lt, int_le, Option, slice_get, cond, if◌then◌else◌}
use Rattle.std.specs.List.{list_all, list_any}
use Rattle.std.specs.Option.{is_some}
use Rattle.std.specs.List.Sorted.{IsPermutation}
use Rattle.std.proofs.lemmas.Bool.{cases_Bool, ltb-true, ltb-false}
use Rattle.std.proofs.lemmas.Int.{ints}
use Rattle.std.proofs.lemmas.List.Folds.{list_any-append}
use Rattle.std.proofs.lemmas.List.Sorted.{list_any-IsPermutation}
use Rattle.sr_region.specs.Regions.{is_in}
use Rattle.sr_image.specs.Reading.{meets_some}
use Rattle.sr_image.proofs.Spelled.{drop-again}
use Rattle.sr_cell.specs.declared.cell.Cell.{Cell}
use Rattle.sr_cell.specs.declared.cell.Cell.TheVariants.{Num, Str, Null as NullCell}
use Rattle.sr_cell.specs.Attrs.{has_column}
use Rattle.sr_box.specs.declared.span.Span.{Span}
use Rattle.sr_box.specs.declared.span.Span.TheVariants.{Full, Nums, Strs, Null}
use Rattle.sr_cell.specs.Cells as cells
use Rattle.sr_cell.specs.Cells.{text_le}
use Rattle.sr_cell.proofs.Order.{text_le-trans, text_le-refl}
use Rattle.sr_box.specs.Cut.{meet, rect_meet, with_first, strs, text_max, end_min}
use Rattle.sr_box.specs.Spans.{in_span, is_below}
use Rattle.sr_box.proofs.Order.{text_max-is, end_min-is, is_below-between}
use Rattle.sr_box.specs.Points.{Rect, constrains}
use Rattle.sr_box.specs.Projected.{has_part, has_part_from}
use Rattle.sr_image.specs.declared.index.Sought.{Sought}
use Rattle.sr_image.specs.declared.index.Sought.TheVariants.{Meeting, Row}
use Rattle.sr_image.specs.Index.{are_under, covers, ends_within, found_at, found_in, is_covered, is_in_hull, is_sought, is_under, numbered, span_covers}

pub covers-length : (h r : Rect) → (length h ≡ length r → ⊥) → covers h r ≡ false
covers-length [] [] ne = absurd (ne refl)
covers-length [] (s ∷ r) ne = refl
covers-length (t ∷ h) [] ne = refl
covers-length (t ∷ h) (s ∷ r) ne = let ih = covers-length h r (λ same. ne (ap suc same)) in grind (arith, ih)

-- ---- spans

both : (a b : Bool) → (a && b) ≡ true → (a ≡ true) × (b ≡ true)
both true b h = (refl, h)
both false b h = absurd cc

-- a wider end is above what the other is above
below-wider : (s : List ℕ) (end wide : Option (List ℕ)) → ends_within end wide ≡ true → is_below s end ≡ true → is_below s wide ≡ true
below-wider s end None c m = refl
below-wider s None (Some wide) c m = absurd cc
below-wider s (Some end) (Some wide) c m = let t = text_le-trans end wide s c in grind (arith, t, m)

-- a lesser text makes a lesser maximum
max-less : (a e x : List ℕ) → text_le e x ≡ true → text_le (text_max a e) (text_max a x) ≡ true
max-less a e x le =
    let top : List ℕ = text_max a x in
    let (own, other) = both (text_le a top) (text_le x top) (sym (text_max-is a x top) ∙ text_le-refl top) in
    let there = text_le-trans e x top le other in
    text_max-is a e top ∙ (rw (own, there) refl)

some-text : (lo : List ℕ) (hi : Option (List ℕ)) → is_some (strs lo hi) ≡ is_below lo hi
some-text lo hi = by (is_below lo hi)
  where
    by : (b : Bool) → is_some (if b then Some (Strs lo hi) else None) ≡ b
    by true = refl
    by false = refl

text-meets : (a e x : List ℕ) (b f y : Option (List ℕ)) → text_le e x ≡ true → ends_within y f ≡ true → is_some (strs (text_max a x) (end_min b y)) ≡ true → is_some (strs (text_max a e) (end_min b f)) ≡ true
text-meets a e x b f y le ends m =
    let (one, other) = both (is_below (text_max a x) b) (is_below (text_max a x) y) (sym (end_min-is b y (text_max a x)) ∙ sym (some-text (text_max a x) (end_min b y)) ∙ m) in
    let less = max-less a e x le in
    let own = is_below-between (text_max a e) (text_max a x) b less one in
    let wide = is_below-between (text_max a e) (text_max a x) f less (below-wider (text_max a x) y f ends other) in
    some-text (text_max a e) (end_min b f) ∙ end_min-is b f (text_max a e) ∙ (rw (own, wide) refl)

span-meets : (s h t : Span) → span_covers h t ≡ true → is_some (meet s t) ≡ true → is_some (meet s h) ≡ true
span-meets Full h t c m = refl
span-meets (Nums a b) Full t c m = refl
span-meets (Nums a b) (Nums e f) Full c m = absurd cc
span-meets (Nums a b) (Nums e f) (Nums x y) c m = grind (arith, ints, c, m)
span-meets (Nums a b) (Nums e f) (Strs x y) c m = absurd cc
span-meets (Nums a b) (Strs e f) Full c m = absurd cc
span-meets (Nums a b) (Strs e f) (Nums x y) c m = absurd cc
span-meets (Nums a b) (Strs e f) (Strs x y) c m = absurd cc
span-meets (Strs a b) Full t c m = refl
span-meets (Strs a b) (Nums e f) Full c m = absurd cc
span-meets (Strs a b) (Nums e f) (Nums x y) c m = absurd cc
span-meets (Strs a b) (Nums e f) (Strs x y) c m = absurd cc
span-meets (Strs a b) (Strs e f) Full c m = absurd cc
span-meets (Strs a b) (Strs e f) (Nums x y) c m = absurd cc
span-meets (Strs a b) (Strs e f) (Strs x y) c m =
    let (le, ends) = both (text_le e x) (ends_within y f) c in
    text-meets a e x b f y le ends m
span-meets (Nums a b) (Nums e f) Null c m = absurd cc
span-meets (Nums a b) (Strs e f) Null c m = absurd cc
span-meets (Nums a b) Null Full c m = absurd cc
span-meets (Nums a b) Null (Nums x y) c m = absurd cc
span-meets (Nums a b) Null (Strs x y) c m = absurd cc
span-meets (Nums a b) Null Null c m = absurd cc
span-meets (Strs a b) (Nums e f) Null c m = absurd cc
span-meets (Strs a b) (Strs e f) Null c m = absurd cc
span-meets (Strs a b) Null Full c m = absurd cc
span-meets (Strs a b) Null (Nums x y) c m = absurd cc
span-meets (Strs a b) Null (Strs x y) c m = absurd cc
span-meets (Strs a b) Null Null c m = absurd cc
span-meets Null Full t c m = refl
span-meets Null (Nums e f) Full c m = absurd cc
span-meets Null (Nums e f) (Nums x y) c m = absurd cc
span-meets Null (Nums e f) (Strs x y) c m = absurd cc
span-meets Null (Nums e f) Null c m = absurd cc
span-meets Null (Strs e f) Full c m = absurd cc
span-meets Null (Strs e f) (Nums x y) c m = absurd cc
span-meets Null (Strs e f) (Strs x y) c m = absurd cc
span-meets Null (Strs e f) Null c m = absurd cc
span-meets Null Null t c m = refl

span-has : (h t : Span) (v : Cell) → span_covers h t ≡ true → in_span t v ≡ true → in_span h v ≡ true
span-has Full t v c m = refl
span-has (Nums e f) Full v c m = absurd cc
span-has (Nums e f) (Nums x y) (Num n) c m = grind (arith, ints, c, m)
span-has (Nums e f) (Nums x y) (Str s) c m = absurd cc
span-has (Nums e f) (Strs x y) v c m = absurd cc
span-has (Strs e f) Full v c m = absurd cc
span-has (Strs e f) (Nums x y) v c m = absurd cc
span-has (Strs e f) (Strs x y) (Num n) c m = absurd cc
span-has (Strs e f) (Strs x y) (Str s) c m =
    let (le, ends) = both (text_le e x) (ends_within y f) c in
    let (from, below) = both (text_le x s) (is_below s y) m in
    rw (text_le-trans e x s le from, below-wider s y f ends below) refl
span-has (Nums e f) (Nums x y) NullCell c m = absurd cc
span-has (Strs e f) (Strs x y) NullCell c m = absurd cc
span-has (Nums e f) Null v c m = absurd cc
span-has (Strs e f) Null v c m = absurd cc
span-has Null Full v c m = absurd cc
span-has Null (Nums x y) v c m = absurd cc
span-has Null (Strs x y) v c m = absurd cc
span-has Null Null v c m = m

span-constrains : (h t : Span) → span_covers h t ≡ true → constrains t ≡ false → constrains h ≡ false
span-constrains Full t c m = refl
span-constrains (Nums e f) Full c m = absurd cc
span-constrains (Nums e f) (Nums x y) c m = absurd cc
span-constrains (Nums e f) (Strs x y) c m = absurd cc
span-constrains (Strs e f) Full c m = absurd cc
span-constrains (Strs e f) (Nums x y) c m = absurd cc
span-constrains (Strs e f) (Strs x y) c m = absurd cc
span-constrains (Nums e f) Null c m = absurd cc
span-constrains (Strs e f) Null c m = absurd cc
span-constrains Null Full c m = absurd cc
span-constrains Null (Nums x y) c m = absurd cc
span-constrains Null (Strs x y) c m = absurd cc
span-constrains Null Null c m = absurd cc

-- ---- rects

first-some : (m : Option Span) (n : Option Rect) → is_some (with_first m n) ≡ true → (is_some m ≡ true) × (is_some n ≡ true)
first-some None n h = absurd cc
first-some (Some m) None h = absurd cc
first-some (Some m) (Some n) h = (refl, refl)

some-first : (m : Option Span) (n : Option Rect) → is_some m ≡ true → is_some n ≡ true → is_some (with_first m n) ≡ true
some-first None n h k = absurd cc
some-first (Some m) None h k = absurd cc
some-first (Some m) (Some n) h k = refl

rect-meets : (q h r : Rect) → covers h r ≡ true → is_some (rect_meet q r) ≡ true → is_some (rect_meet q h) ≡ true
rect-meets [] [] r c m = refl
rect-meets [] (t ∷ h) [] c m = absurd cc
rect-meets [] (t ∷ h) (s ∷ r) c m = absurd cc
rect-meets (u ∷ q) [] [] c m = absurd cc
rect-meets (u ∷ q) [] (s ∷ r) c m = absurd cc
rect-meets (u ∷ q) (t ∷ h) [] c m = absurd cc
rect-meets (u ∷ q) (t ∷ h) (s ∷ r) c m =
    let (one, others) = both (span_covers t s) (covers h r) c in
    let (first, rest) = first-some (meet u s) (rect_meet q r) m in
    some-first (meet u t) (rect_meet q h) (span-meets u t s one first) (rect-meets q h r others rest)

part-has : (c attrs : ℕ) (h r : Rect) (cells : cells.Row) → covers h r ≡ true → has_part_from c attrs r cells ≡ true → has_part_from c attrs h cells ≡ true
part-has c attrs [] [] cells v m = m
part-has c attrs [] (s ∷ r) cells v m = absurd cc
part-has c attrs (t ∷ h) [] cells v m = absurd cc
part-has c attrs (t ∷ h) (s ∷ r) [] v m =
    let (one, others) = both (span_covers t s) (covers h r) v in
    let ih = part-has (c + 1) attrs h r [] others in
    let free = span-constrains t s one in
    grind (arith, ih, free, m)
part-has c attrs (t ∷ h) (s ∷ r) (x ∷ cells) v m = by (has_column attrs c) m (part-has (c + 1) attrs h r cells (both (span_covers t s) (covers h r) v).1) (part-has (c + 1) attrs h r (x ∷ cells) (both (span_covers t s) (covers h r) v).1)
  where
    by : (b : Bool) → (if b then in_span s x && has_part_from (c + 1) attrs r cells else not (constrains s) && has_part_from (c + 1) attrs r (x ∷ cells)) ≡ true
        → (has_part_from (c + 1) attrs r cells ≡ true → has_part_from (c + 1) attrs h cells ≡ true) → (has_part_from (c + 1) attrs r (x ∷ cells) ≡ true → has_part_from (c + 1) attrs h (x ∷ cells) ≡ true)
        → (if b then in_span t x && has_part_from (c + 1) attrs h cells else not (constrains t) && has_part_from (c + 1) attrs h (x ∷ cells)) ≡ true
    by true m ih other =
        let (here, rest) = both (in_span s x) (has_part_from (c + 1) attrs r cells) m in
        rw (span-has t s x (both (span_covers t s) (covers h r) v).0 here) (ih rest)
    by false m ih other =
        let (free, rest) = both (not (constrains s)) (has_part_from (c + 1) attrs r (x ∷ cells)) m in
        let none : constrains s ≡ false = grind (arith, free) in
        rw (span-constrains t s (both (span_covers t s) (covers h r) v).0 none) (other rest)

-- ---- what is sought

sought-in : (s : Sought) (place : ℕ) (h r : Rect) → covers h r ≡ true → is_sought s place r ≡ true → is_in_hull s h ≡ true
sought-in (Meeting before rect) place h r c m = rect-meets rect.now h r c (both (nat_lt place before) (is_some (rect_meet rect.now r)) m).1
sought-in (Row attrs row) place h r c m = part-has 0 attrs h r row.now c m

-- where it is in no hull it is not what the hull covers
none-at : (s : Sought) (place : ℕ) (h : Rect) (r : Option Rect) → is_covered h r ≡ true → is_in_hull s h ≡ false → found_in s place r ≡ false
none-at s place h None c nonene = refl
none-at s place h (Some r) c none = by (cases_Bool (is_sought s place r))
  where
    by : (is_sought s place r ≡ true) ⊎ (is_sought s place r ≡ false) → is_sought s place r ≡ false
    by (inl here) = absurd (cc (sought-in s place h r c here, none))
    by (inr other) = other

pub none-under : (s : Sought) (rects : List Rect) (h : Rect) (places : List ℕ) → is_under rects (Some h) places ≡ true → is_in_hull s h ≡ false → list_any (found_at s rects) places ≡ false
none-under s rects h [] c nonene = refl
none-under s rects h (p ∷ places) c none =
    let (one, others) = both (is_covered h (slice_get rects p)) (is_under rects (Some h) places) c in
    rw (none-at s p h (slice_get rects p) one none) (none-under s rects h places others none)

-- the hull of a block has what is in it
pub block-under : (rects : List Rect) (size j : ℕ) (hulls : List (Option Rect)) (order : List ℕ) (h : Option Rect) → slice_get hulls j ≡ Some h → are_under rects size hulls order ≡ true
    → is_under rects h (take size (drop (j * size) order)) ≡ true
block-under rects size j [] order h at c = absurd cc
block-under rects size zero (g ∷ hulls) order h at c =
    let none : 0 * size ≡ 0 = omega arith in
    let is : g ≡ h = cc in
    ap (λ n. is_under rects h (take size (drop n order))) none ∙ ap (λ (x : Option Rect). is_under rects x (take size order)) (sym is) ∙ (both (is_under rects g (take size order)) (are_under rects size hulls (drop size order)) c).0
block-under rects size (suc j) (g ∷ hulls) order h at c =
    let more : j * size + size ≡ suc j * size = grind arith in
    let ih = block-under rects size j hulls (drop size order) h at (both (is_under rects g (take size order)) (are_under rects size hulls (drop size order)) c).1 in
    ap (λ n. is_under rects h (take size (drop n order))) (sym more) ∙ ap (λ (x : List ℕ). is_under rects h (take size x)) (sym (drop-again (j * size) size order)) ∙ ih

-- one hull more
pub hulls-more : (rects : List Rect) (size : ℕ) (hulls : List (Option Rect)) (order : List ℕ) (h : Option Rect) → are_under rects size hulls order ≡ true
    → is_under rects h (take size (drop (length hulls * size) order)) ≡ true → are_under rects size (hulls ++ h ∷ []) order ≡ true
hulls-more rects size [] order h c here =
    let none : 0 * size ≡ 0 = omega arith in
    let is : is_under rects h (take size order) ≡ true = ap (λ n. is_under rects h (take size (drop n order))) (sym none) ∙ here in
    rw is refl
hulls-more rects size (g ∷ hulls) order h c here =
    let (one, others) = both (is_under rects g (take size order)) (are_under rects size hulls (drop size order)) c in
    let more : length hulls * size + size ≡ suc (length hulls) * size = grind arith in
    let there = ap (λ (x : List ℕ). is_under rects h (take size x)) (drop-again (length hulls * size) size order) ∙ ap (λ n. is_under rects h (take size (drop n order))) more ∙ here in
    rw one (hulls-more rects size hulls (drop size order) h others there)

-- ---- passing over a block

pub passed-on : (p : ℕ → Bool) (order : List ℕ) (at size : ℕ) → list_any p (take size (drop at order)) ≡ false → list_any p (drop at order) ≡ list_any p (drop (at + size) order)
passed-on p order at size none =
    let split = take-append-drop size (drop at order) in
    let back : drop size (drop at order) ≡ drop (at + size) order = drop-again size at order ∙ (let e : size + at ≡ at + size = omega arith in ap (λ n. drop n order) e) in
    ap (list_any p) (sym split) ∙ list_any-append p (take size (drop at order)) (drop size (drop at order)) ∙ ap (λ b. b || list_any p (drop size (drop at order))) none ∙ ap (list_any p) back

pub all-at : {A : Type 0} (p : A → Bool) (xs : List A) (i : ℕ) (d : A) → list_all p xs ≡ true → i < length xs → p (get_or xs i d) ≡ true
all-at p [] i d h lt = absurd (omega (arith, lt))
all-at p (x ∷ xs) zero d h lt = (both (p x) (list_all p xs) h).0
all-at p (x ∷ xs) (suc i) d h lt = all-at p xs i d (both (p x) (list_all p xs) h).1 (omega (arith, lt))

-- ---- the rects of a list by their places

abbrev any_from : (ℕ → Option Rect → Bool) → ℕ → List Rect → Bool
any_from f k [] = false
any_from f k (r ∷ rects) = f k (Some r) || any_from f (k + 1) rects

get-behind : (front : List Rect) (r : Rect) (rects : List Rect) (k : ℕ) → length front ≡ k → slice_get (front ++ r ∷ rects) k ≡ Some r
get-behind [] r rects zero e = refl
get-behind [] r rects (suc k) e = absurd (omega (arith, e))
get-behind (q ∷ front) r rects zero e = absurd (omega (arith, e))
get-behind (q ∷ front) r rects (suc k) e = get-behind front r rects k (omega (arith, e))

by-places : (f : ℕ → Option Rect → Bool) (front rects : List Rect) (k : ℕ) → length front ≡ k → list_any (λ i. f i (slice_get (front ++ rects) i)) (numbered k rects) ≡ any_from f k rects
by-places f front [] k e = refl
by-places f front (r ∷ rects) k e =
    let longer : length (front ++ r ∷ []) ≡ k + 1 = length-append front (r ∷ []) ∙ (let s : length front + 1 ≡ k + 1 = omega (arith, e) in s) in
    let ih = by-places f (front ++ r ∷ []) rects (k + 1) longer in
    let moved : (front ++ r ∷ []) ++ rects ≡ front ++ r ∷ rects = append_assoc front (r ∷ []) rects in
    let others : list_any (λ i. f i (slice_get (front ++ r ∷ rects) i)) (numbered (k + 1) rects) ≡ any_from f (k + 1) rects = ap (λ (all : List Rect). list_any (λ i. f i (slice_get all i)) (numbered (k + 1) rects)) (sym moved) ∙ ih in
    rw (get-behind front r rects k e, others) refl

any-meets : (rect : Bor Rect) (before k : ℕ) (rects : List Rect) → any_from (found_in (Meeting before rect)) k rects ≡ meets_some (take (before - k) rects) rect.now
any-meets rect before k [] = by (before - k)
  where
    by : (n : ℕ) → false ≡ meets_some (take n []) rect.now
    by zero = refl
    by (suc n) = refl
any-meets rect before k (r ∷ rects) = by (cases_Bool (nat_lt k before)) (any-meets rect before (k + 1) rects)
  where
    by : (nat_lt k before ≡ true) ⊎ (nat_lt k before ≡ false) → any_from (found_in (Meeting before rect)) (k + 1) rects ≡ meets_some (take (before - (k + 1)) rects) rect.now
        → any_from (found_in (Meeting before rect)) k (r ∷ rects) ≡ meets_some (take (before - k) (r ∷ rects)) rect.now
    by (inl less) ih =
        let lt : k < before = ltb-true _ _ less in
        let more : before - k ≡ suc (before - (k + 1)) = omega (arith, lt) in
        rw (less, ih, more) refl
    by (inr all) ih =
        let le : before ≤ k = ltb-false _ _ all in
        let none : before - k ≡ 0 = omega (arith, le) in
        let nothing : before - (k + 1) ≡ 0 = omega (arith, le) in
        rw (all, ih, none, nothing) refl

any-has : (attrs : ℕ) (row : Bor cells.Row) (k : ℕ) (rects : List Rect) → any_from (found_in (Row attrs row)) k rects ≡ is_in attrs rects row.now
any-has attrs row k [] = refl
any-has attrs row k (r ∷ rects) = ap (λ b. has_part attrs r row.now || b) (any-has attrs row (k + 1) rects)

in-order : (s : Sought) (rects : List Rect) (order : List ℕ) → IsPermutation (numbered 0 rects) order → list_any (found_at s rects) order ≡ any_from (found_in s) 0 rects
in-order s rects order same = sym (list_any-IsPermutation (found_at s rects) (numbered 0 rects) order same) ∙ by-places (found_in s) [] rects 0 refl

pub meets-in : (rect : Bor Rect) (before : ℕ) (rects : List Rect) (order : List ℕ) → IsPermutation (numbered 0 rects) order → list_any (found_at (Meeting before rect) rects) order ≡ meets_some (take before rects) rect.now
meets-in rect before rects order same =
    let e : before - 0 ≡ before = omega arith in
    in-order (Meeting before rect) rects order same ∙ any-meets rect before 0 rects ∙ ap (λ n. meets_some (take n rects) rect.now) e

pub has-in : (attrs : ℕ) (row : Bor cells.Row) (rects : List Rect) (order : List ℕ) → IsPermutation (numbered 0 rects) order → list_any (found_at (Row attrs row) rects) order ≡ is_in attrs rects row.now
has-in attrs row rects order same = in-order (Row attrs row) rects order same ∙ any-has attrs row 0 rects

-- one rect more
pub numbered-more : (k : ℕ) (rects : List Rect) (r : Rect) → numbered k (rects ++ r ∷ []) ≡ numbered k rects ++ (k + length rects) ∷ []
numbered-more k [] r = let e : k + 0 ≡ k = omega arith in ap (λ n. n ∷ []) (sym e)
numbered-more k (q ∷ rects) r = let e : (k + 1) + length rects ≡ k + suc (length rects) = omega arith in ap (λ (xs : List ℕ). k ∷ xs) (numbered-more (k + 1) rects r ∙ ap (λ n. numbered (k + 1) rects ++ n ∷ []) e)

pub take-past : (n : ℕ) (xs : List ℕ) → length xs ≤ n → take n xs ≡ xs
take-past zero [] le = refl
take-past zero (x ∷ xs) le = absurd (omega (arith, le))
take-past (suc n) [] le = refl
take-past (suc n) (x ∷ xs) le = ap (λ (ys : List ℕ). x ∷ ys) (take-past n xs (omega (arith, le)))
