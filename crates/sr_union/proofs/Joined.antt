-- Spans and rects that lie side by side.
use Rattle.std.proofs.Common.{◌≡◌, ℕ, zero, suc, true, false, List, [], ◌∷◌, ◌++◌, ◌+◌, ◌-◌, ◌<◌, length, take, drop, slice_index_or, refl, arith, true≢false, ◌∙◌, sym, append_assoc, ap, subst}
use Rattle.std.specs.Prelude.{Bool, ◌&&◌, ◌||◌, not, Option, Some, None, ℤ, int_le, int_lt, pos, ◌+ℤ◌, if◌then◌else◌, slice_get, slice_set}
use Rattle.std.specs.List.{list_all}
use Rattle.std.proofs.lemmas.List.{length-append, length-drop, take_more, take_all}
use Rattle.std.proofs.lemmas.List.Folds.{list_all-append}
use Rattle.std.proofs.lemmas.Int.{ints}
use Rattle.std.proofs.Math.Bool.{or_comm}
use Rattle.sr_cell.specs.declared.cell.Cell.{Cell}
use Rattle.sr_cell.specs.declared.cell.Cell.TheVariants.{Num, Str, Null as NullCell}
use Rattle.sr_cell.specs.declared.table.Kind.{Kind}
use Rattle.sr_cell.specs.declared.table.Kind.TheVariants.{Num as Numbers, Str as Texts}
use Rattle.sr_cell.specs.declared.table.Column.{Column}
use Rattle.sr_cell.specs.Cells.{Row, text_le}
use Rattle.sr_cell.specs.Columns.{in_kind, in_column, is_point}
use Rattle.sr_cell.proofs.Order.{text_le-trans, text_le-total}
use Rattle.sr_box.specs.declared.span.Span.{Span}
use Rattle.sr_box.specs.declared.span.Span.TheVariants.{Full, Nums, Strs}
use Rattle.sr_box.specs.Spans.{in_span, is_below, is_whole, fits_kind, span_fits}
use Rattle.sr_box.specs.Points.{Rect, in_rect, rect_fits, times}
use Rattle.sr_box.proofs.Order.{is_below-between}
use Rattle.sr_box.specs.Corners.{text_cut, end_cut, null_cut}
use Rattle.sr_union.specs.Grid.{is_among, has_cut, first_cuts, others, CutsAmong, AreCutFrom}
use Rattle.sr_union.specs.Pieces.{IsMinus, IsOnce}
use Rattle.sr_union.specs.Joined.{AreBeside, numbers, texts, IsBoth, IsJoined}
use Rattle.sr_union.proofs.Times.{times-append}
use Rattle.sr_union.proofs.Cuts.{cut-is, nums-cut, strs-cut}
use Rattle.sr_union.proofs.Among.{AreCutFrom-append, among_either}
use Rattle.sr_union.proofs.Parts.{are_fit}
use Rattle.sr_union.proofs.Inner.{fits_length}
use Rattle.sr_union.proofs.Once.{are_self, are_trans, once_more, with_one}

-- the span, or Full where it has each value
abbrev fitted : Kind → ℤ → ℤ → Bool → Span → Span
fitted k low high n s = if fits_kind k low high n s then s else Full

-- a value below the border q of two spans is before the end of the second, and one above it is behind the beginning of the first
split-once : (p q r s : Bool) → r ≡ not q → (q ≡ true → s ≡ true) → (q ≡ false → p ≡ true) → (if p && s then 1 else 0) ≡ (if p && q then 1 else 0) + (if r && s then 1 else 0)
split-once p true r s other below above = let b = below refl in grind (arith, other, b)
split-once p false r s other below above = let a = above refl in grind (arith, other, a)

-- numbers beside the border of two spans
from_next : (b n : ℤ) → int_le (b +ℤ pos 1) n ≡ not (int_le n b)
from_next b n = grind (arith, ints)

before_end : (b d n : ℤ) → int_le (b +ℤ pos 1) d ≡ true → int_le n b ≡ true → int_le n d ≡ true
before_end b d n h k = grind (arith, ints)

behind_start : (a b n : ℤ) → int_le a b ≡ true → int_le n b ≡ false → int_le a n ≡ true
behind_start a b n h k = grind (arith, ints)

-- a span that begins at the lowest number, and one that ends at the highest
from_lowest : (low a n : ℤ) → int_lt low a ≡ false → int_le low n ≡ true → int_le a n ≡ true
from_lowest low a n h k = grind (arith, ints)

to_highest : (high d n : ℤ) → int_lt d high ≡ false → int_le n high ≡ true → int_le n d ≡ true
to_highest high d n h k = grind (arith, ints)

-- a span that has all numbers
all-numbers : (in_low in_order in_high above under : Bool) → in_low ≡ true → in_order ≡ true → in_high ≡ true → (in_low && in_order && in_high && (above || under)) ≡ false → (above ≡ false) × (under ≡ false)
all-numbers true true true true u i j k e = absurd (grind (arith, e))
all-numbers true true true false true i j k e = absurd (grind (arith, e))
all-numbers true true true false false i j k e = (refl, refl)
all-numbers false o h a u i j k e = absurd (grind (arith, i))
all-numbers true false h a u i j k e = absurd (grind (arith, j))
all-numbers true true false a u i j k e = absurd (grind (arith, k))

-- a span of numbers that does not fit has all of them, in a column without Null
no_fit : (low high : ℤ) (n : Bool) (a d : ℤ) → int_le low a ≡ true → int_le a d ≡ true → int_le d high ≡ true → fits_kind Numbers low high n (Nums a d) ≡ false → (int_lt low a ≡ false) × (int_lt d high ≡ false) × (n ≡ false)
no_fit low high true a d i j k e = absurd (grind (arith, i, j, k, e))
no_fit low high false a d i j k e = let x = all-numbers (int_le low a) (int_le a d) (int_le d high) (int_lt low a) (int_lt d high) i j k e in (x.0, x.1, refl)

numbers-once : (low high : ℤ) (nu : Bool) (a b d n : ℤ) → fits_kind Numbers low high nu (Nums a b) ≡ true → fits_kind Numbers low high nu (Nums (b +ℤ pos 1) d) ≡ true → in_kind Numbers low high nu (Num n) ≡ true
    → (if in_span (fitted Numbers low high nu (Nums a d)) (Num n) then 1 else 0) ≡ (if in_span (Nums a b) (Num n) then 1 else 0) + (if in_span (Nums (b +ℤ pos 1) d) (Num n) then 1 else 0)
numbers-once low high nu a b d n f g h = go (fits_kind Numbers low high nu (Nums a d)) refl
  where
    first : (int_le low a ≡ true) × (int_le a b ≡ true)
    first = (grind (arith, f), grind (arith, f))

    second : (int_le (b +ℤ pos 1) d ≡ true) × (int_le d high ≡ true)
    second = (grind (arith, g), grind (arith, g))

    once : (if int_le a n && int_le n d then 1 else 0) ≡ (if int_le a n && int_le n b then 1 else 0) + (if int_le (b +ℤ pos 1) n && int_le n d then 1 else 0)
    once = split-once (int_le a n) (int_le n b) (int_le (b +ℤ pos 1) n) (int_le n d) (from_next b n) (before_end b d n second.0) (behind_start a b n first.1)

    go : (x : Bool) → fits_kind Numbers low high nu (Nums a d) ≡ x
        → (if in_span (if x then Nums a d else Full) (Num n) then 1 else 0) ≡ (if in_span (Nums a b) (Num n) then 1 else 0) + (if in_span (Nums (b +ℤ pos 1) d) (Num n) then 1 else 0)
    go true e = once
    go false e =
        let none = no_fit low high nu a d first.0 (before_end b d a second.0 first.1) second.1 e in
        let from = from_lowest low a n none.0 (grind (arith, h)) in
        let to = to_highest high d n none.1 (grind (arith, h)) in
        sym (ap (λ x. if x && int_le n d then 1 else 0) from ∙ ap (λ x. if x then 1 else 0) to) ∙ once

-- what the whole texts of two spans are
whole_texts : (low high : ℤ) (n : Bool) (a b : List ℕ) (d : Option (List ℕ)) → fits_kind Texts low high n (Strs a (Some b)) ≡ true → fits_kind Texts low high n (Strs b d) ≡ true → fits_kind Texts low high n (Strs a d) ≡ false
    → (is_whole a d ≡ true) × (n ≡ false)
whole_texts low high true a b d f g e = absurd (let t = text_le-total b a in let w = is_below-between a b d in grind (arith, t, w, f, g, e))
whole_texts low high false a b d f g e = (let t = text_le-total b a in let w = is_below-between a b d in grind (arith, t, w), refl)

not-not : (x : Bool) → x ≡ not (not x)
not-not true = refl
not-not false = refl

texts-once : (low high : ℤ) (n : Bool) (a b : List ℕ) (d : Option (List ℕ)) (s : List ℕ) → fits_kind Texts low high n (Strs a (Some b)) ≡ true → fits_kind Texts low high n (Strs b d) ≡ true
    → (if in_span (fitted Texts low high n (Strs a d)) (Str s) then 1 else 0) ≡ (if in_span (Strs a (Some b)) (Str s) then 1 else 0) + (if in_span (Strs b d) (Str s) then 1 else 0)
texts-once low high n a b d s f g = go (fits_kind Texts low high n (Strs a d)) refl
  where
    whole : (a : List ℕ) (d : Option (List ℕ)) → is_whole a d ≡ true → 1 ≡ (if in_span (Strs a (Some b)) (Str s) then 1 else 0) + (if in_span (Strs b d) (Str s) then 1 else 0)
    whole [] None e = grind arith
    whole [] (Some d) e = absurd (grind arith)
    whole (x ∷ a) d e = absurd (grind arith)

    in_order : text_le a b ≡ true
    in_order = text_le-total b a (grind (arith, f))

    below : not (text_le b s) ≡ true → is_below s d ≡ true
    below h = is_below-between s b d (text_le-total b s (grind (arith, h))) (grind (arith, g))

    above : not (text_le b s) ≡ false → text_le a s ≡ true
    above h = text_le-trans a b s in_order (grind (arith, h))

    go : (x : Bool) → fits_kind Texts low high n (Strs a d) ≡ x
        → (if in_span (if x then Strs a d else Full) (Str s) then 1 else 0) ≡ (if in_span (Strs a (Some b)) (Str s) then 1 else 0) + (if in_span (Strs b d) (Str s) then 1 else 0)
    go true e = split-once (text_le a s) (not (text_le b s)) (text_le b s) (is_below s d) (not-not (text_le b s)) below above
    go false e = whole a d (whole_texts low high n a b d f g e).0

-- Null is in neither span, and the span of both that fits has it not
numbers-null : (low high : ℤ) (n : Bool) (a b d : ℤ) → fits_kind Numbers low high n (Nums a b) ≡ true → fits_kind Numbers low high n (Nums (b +ℤ pos 1) d) ≡ true → n ≡ true
    → in_span (fitted Numbers low high n (Nums a d)) NullCell ≡ false
numbers-null low high n a b d f g is = go (fits_kind Numbers low high n (Nums a d)) refl
  where
    go : (x : Bool) → fits_kind Numbers low high n (Nums a d) ≡ x → in_span (if x then Nums a d else Full) NullCell ≡ false
    go true e = refl
    go false e = let none = no_fit low high n a d (grind (arith, f)) (before_end b d a (grind (arith, g)) (grind (arith, f))) (grind (arith, g)) e in absurd (true≢false (sym is ∙ none.2))

texts-null : (low high : ℤ) (n : Bool) (a b : List ℕ) (d : Option (List ℕ)) → fits_kind Texts low high n (Strs a (Some b)) ≡ true → fits_kind Texts low high n (Strs b d) ≡ true → n ≡ true
    → in_span (fitted Texts low high n (Strs a d)) NullCell ≡ false
texts-null low high n a b d f g is = go (fits_kind Texts low high n (Strs a d)) refl
  where
    go : (x : Bool) → fits_kind Texts low high n (Strs a d) ≡ x → in_span (if x then Strs a d else Full) NullCell ≡ false
    go true e = refl
    go false e = let none = whole_texts low high n a b d f g e in absurd (true≢false (sym is ∙ none.1))

fitted-fits : (k : Kind) (low high : ℤ) (n : Bool) (s : Span) → fits_kind k low high n (fitted k low high n s) ≡ true
fitted-fits k low high n s = go (fits_kind k low high n s) refl
  where
    go : (x : Bool) → fits_kind k low high n s ≡ x → fits_kind k low high n (if x then s else Full) ≡ true
    go true e = e
    go false e = refl

fitted-cuts : (k : Kind) (low high : ℤ) (n : Bool) (s : Span) (v : Cell) → has_cut k low high n (fitted k low high n s) v ≡ true → has_cut k low high n s v ≡ true
fitted-cuts k low high n s v h = go (fits_kind k low high n s) k h
  where
    go : (x : Bool) (k : Kind) → has_cut k low high n (if x then s else Full) v ≡ true → has_cut k low high n s v ≡ true
    go true k e = e
    go false Numbers e = absurd (grind arith)
    go false Texts e = absurd (grind arith)

numbers-cuts : (low high : ℤ) (n : Bool) (a b c d : ℤ) (v : Cell) → has_cut Numbers low high n (Nums a d) v ≡ true → (has_cut Numbers low high n (Nums a b) v || has_cut Numbers low high n (Nums c d) v) ≡ true
numbers-cuts low high n a b c d v h =
    let x = nums-cut low high a d v in let y = nums-cut low high a b v in let z = nums-cut low high c d v in
    let p = cut-is Numbers low high n (Nums a d) v in let q = cut-is Numbers low high n (Nums a b) v in let r = cut-is Numbers low high n (Nums c d) v in grind (arith, x, y, z, p, q, r)

texts-cut : (low high : ℤ) (n : Bool) (lo : List ℕ) (hi : Option (List ℕ)) (v : Cell)
    → has_cut Texts low high n (Strs lo hi) v ≡ (is_among (null_cut n) v || (is_among (text_cut lo) v || is_among (end_cut hi) v))
texts-cut low high n lo hi v = cut-is Texts low high n (Strs lo hi) v ∙ ap (λ x. is_among (null_cut n) v || x) (strs-cut low high lo hi v)

outer : (n a b c d : Bool) → (n || (a || d)) ≡ true → ((n || (a || b)) || (n || (c || d))) ≡ true
outer true a b c d h = refl
outer false true b c d h = refl
outer false false true c d h = refl
outer false false false true d h = refl
outer false false false false d h = h

outer_of : (x y z n a b c d : Bool) → x ≡ (n || (a || d)) → y ≡ (n || (a || b)) → z ≡ (n || (c || d)) → x ≡ true → (y || z) ≡ true
outer_of x y z n a b c d e f g h = rw (f, g) (outer n a b c d (sym e ∙ h))

texts-cuts : (low high : ℤ) (n : Bool) (a c : List ℕ) (b d : Option (List ℕ)) (v : Cell) → has_cut Texts low high n (Strs a d) v ≡ true → (has_cut Texts low high n (Strs a b) v || has_cut Texts low high n (Strs c d) v) ≡ true
texts-cuts low high n a c b d v h =
    outer_of (has_cut Texts low high n (Strs a d) v) (has_cut Texts low high n (Strs a b) v) (has_cut Texts low high n (Strs c d) v)
    (is_among (null_cut n) v) (is_among (text_cut a) v) (is_among (end_cut b) v) (is_among (text_cut c) v) (is_among (end_cut d) v)
    (texts-cut low high n a d v) (texts-cut low high n a b v) (texts-cut low high n c d v) h

-- what both spans make, for the kind of a column
record IsOne (k : Kind) (low high : ℤ) (n : Bool) (s t u : Span) : Type 0 where
  once : (v : Cell) → in_kind k low high n v ≡ true → (if in_span (fitted k low high n u) v then 1 else 0) ≡ (if in_span s v then 1 else 0) + (if in_span t v then 1 else 0)
  cuts : (v : Cell) → has_cut k low high n u v ≡ true → (has_cut k low high n s v || has_cut k low high n t v) ≡ true

numbers-one : (k : Kind) (low high : ℤ) (n : Bool) (a b d : ℤ) → fits_kind k low high n (Nums a b) ≡ true → fits_kind k low high n (Nums (b +ℤ pos 1) d) ≡ true → IsOne k low high n (Nums a b) (Nums (b +ℤ pos 1) d) (Nums a d)
numbers-one Numbers low high n a b d f g = record { once = once; cuts = numbers-cuts low high n a b (b +ℤ pos 1) d }
  where
    once : (v : Cell) → in_kind Numbers low high n v ≡ true
        → (if in_span (fitted Numbers low high n (Nums a d)) v then 1 else 0) ≡ (if in_span (Nums a b) v then 1 else 0) + (if in_span (Nums (b +ℤ pos 1) d) v then 1 else 0)
    once (Num m) h = numbers-once low high n a b d m f g h
    once (Str s) h = absurd (grind arith)
    once NullCell h = ap (λ x. if x then 1 else 0) (numbers-null low high n a b d f g h)
numbers-one Texts low high n a b d f g = absurd (grind arith)

texts-one : (k : Kind) (low high : ℤ) (n : Bool) (a b : List ℕ) (d : Option (List ℕ)) → fits_kind k low high n (Strs a (Some b)) ≡ true → fits_kind k low high n (Strs b d) ≡ true
    → IsOne k low high n (Strs a (Some b)) (Strs b d) (Strs a d)
texts-one Numbers low high n a b d f g = absurd (grind arith)
texts-one Texts low high n a b d f g = record { once = once; cuts = texts-cuts low high n a b (Some b) d }
  where
    once : (v : Cell) → in_kind Texts low high n v ≡ true
        → (if in_span (fitted Texts low high n (Strs a d)) v then 1 else 0) ≡ (if in_span (Strs a (Some b)) v then 1 else 0) + (if in_span (Strs b d) v then 1 else 0)
    once (Num m) h = absurd (grind arith)
    once (Str s) h = texts-once low high n a b d s f g
    once NullCell h = ap (λ x. if x then 1 else 0) (texts-null low high n a b d f g h)

beside-one : (k : Kind) (low high : ℤ) (n : Bool) (s t u : Span) → fits_kind k low high n s ≡ true → fits_kind k low high n t ≡ true → AreBeside s t u → IsOne k low high n s t u
beside-one k low high n s t u f g (numbers a b d x y z) =
    subst (λ r. IsOne k low high n r t u) (sym x) (subst (λ r. IsOne k low high n (Nums a b) r u) (sym y) (subst (IsOne k low high n (Nums a b) (Nums (b +ℤ pos 1) d)) (sym z)
    (numbers-one k low high n a b d (subst (λ r. fits_kind k low high n r ≡ true) x f) (subst (λ r. fits_kind k low high n r ≡ true) y g))))
beside-one k low high n s t u f g (texts a b d x y z) =
    subst (λ r. IsOne k low high n r t u) (sym x) (subst (λ r. IsOne k low high n (Strs a (Some b)) r u) (sym y) (subst (IsOne k low high n (Strs a (Some b)) (Strs b d)) (sym z)
    (texts-one k low high n a b d (subst (λ r. fits_kind k low high n r ≡ true) x f) (subst (λ r. fits_kind k low high n r ≡ true) y g))))

-- the answer, where the second span begins just above the end of the first
pub both-up : (c : Column) (s t u w : Span) → span_fits c s ≡ true → span_fits c t ≡ true → AreBeside s t u → w ≡ (if span_fits c u then u else Full) → IsBoth c s t w
both-up c s t u w f g h e = let one = beside-one c.kind c.lo c.hi c.nullable s t u f g h in
    subst (IsBoth c s t) (sym e) (record { once = one.once; fits = fitted-fits c.kind c.lo c.hi c.nullable u; cuts = λ v is. one.cuts v (fitted-cuts c.kind c.lo c.hi c.nullable u v is) })

turned : (c : Column) (s t w : Span) → IsBoth c t s w → IsBoth c s t w
turned c s t w h = record {
  once = λ v e. let x = h.once v e in omega (arith, x);
  fits = h.fits;
  cuts = λ v e. or_comm (has_cut c.kind c.lo c.hi c.nullable s v) (has_cut c.kind c.lo c.hi c.nullable t v) ∙ h.cuts v e;
}

-- and where the first begins just above the end of the second
pub both-down : (c : Column) (s t u w : Span) → span_fits c s ≡ true → span_fits c t ≡ true → AreBeside t s u → w ≡ (if span_fits c u then u else Full) → IsBoth c s t w
both-down c s t u w f g h e = turned c s t w (both-up c t s u w g f h e)

-- two rects that differ in the k-th column alone
pub record AreTwins (cs : List Column) (r q : Rect) (k : ℕ) : Type 0 where
  pub fits : rect_fits cs r ≡ true
  pub other_fits : rect_fits cs q ≡ true
  pub head : take k r ≡ take k q
  pub rest : drop (suc k) r ≡ drop (suc k) q
  pub is_column : k < length r

behind : (c : Column) (cs : List Column) (s t : Span) (r q : Rect) (k : ℕ) → AreTwins (c ∷ cs) (s ∷ r) (t ∷ q) (suc k) → (s ≡ t) × AreTwins cs r q k
behind c cs s t r q k h = let e = h.head in let f = h.fits in let g = h.other_fits in let l = h.is_column in
    (cc, record { fits = grind (arith, f); other_fits = grind (arith, g); head = cc; rest = h.rest; is_column = omega (arith, l) })

twins-times : (cs : List Column) (r q : Rect) (k : ℕ) (c : Column) (s t w : Span) (p : Row) → AreTwins cs r q k → c ≡ slice_index_or cs k c → s ≡ slice_index_or r k s → t ≡ slice_index_or q k t
    → IsBoth c s t w → is_point cs p ≡ true → (if in_rect (slice_set r k w) p then 1 else 0) ≡ (if in_rect r p then 1 else 0) + (if in_rect q p then 1 else 0)
twins-times cs [] q k c s t w p h i j m b e = absurd (let l = h.is_column in omega (arith, l))
twins-times [] (x ∷ r) q k c s t w p h i j m b e = absurd (let f = h.fits in grind (arith, f))
twins-times (d ∷ cs) (x ∷ r) [] k c s t w p h i j m b e = absurd (let f = h.other_fits in grind (arith, f))
twins-times (d ∷ cs) (x ∷ r) (y ∷ q) k c s t w [] h i j m b e = absurd (grind arith)
twins-times (d ∷ cs) (x ∷ r) (y ∷ q) zero c s t w (v ∷ p) h i j m b e =
    let is : r ≡ q = h.rest in let o = b.once v (subst (λ z. in_column z v ≡ true) (sym i) (grind arith)) in
    grind (arith, is, j, m, o)
twins-times (d ∷ cs) (x ∷ r) (y ∷ q) (suc k) c s t w (v ∷ p) h i j m b e =
    let z = behind d cs x y r q k h in let same = z.0 in let ih = twins-times cs r q k c s t w p z.1 i j m b (grind arith) in
    grind (arith, same, ih)

twins-fit : (cs : List Column) (r q : Rect) (k : ℕ) (c : Column) (s t w : Span) → AreTwins cs r q k → c ≡ slice_index_or cs k c → IsBoth c s t w → rect_fits cs (slice_set r k w) ≡ true
twins-fit cs [] q k c s t w h i b = absurd (let l = h.is_column in omega (arith, l))
twins-fit [] (x ∷ r) q k c s t w h i b = absurd (let f = h.fits in grind (arith, f))
twins-fit (d ∷ cs) (x ∷ r) [] k c s t w h i b = absurd (let f = h.other_fits in grind (arith, f))
twins-fit (d ∷ cs) (x ∷ r) (y ∷ q) zero c s t w h i b =
    let f = h.fits in let fw = subst (λ z. span_fits z w ≡ true) i b.fits in grind (arith, f, fw)
twins-fit (d ∷ cs) (x ∷ r) (y ∷ q) (suc k) c s t w h i b =
    let z = behind d cs x y r q k h in let f = h.fits in let ih = twins-fit cs r q k c s t w z.1 i b in grind (arith, f, ih)

twins-cuts : (cs : List Column) (given : List Rect) (r q : Rect) (k : ℕ) (c : Column) (s t w : Span) → AreTwins cs r q k → c ≡ slice_index_or cs k c → s ≡ slice_index_or r k s → t ≡ slice_index_or q k t
    → IsBoth c s t w → CutsAmong cs r given → CutsAmong cs q given → CutsAmong cs (slice_set r k w) given
twins-cuts cs given [] q k c s t w h i j m b x y = absurd (let l = h.is_column in omega (arith, l))
twins-cuts [] given (u ∷ r) q k c s t w h i j m b x y = absurd (let f = h.fits in grind (arith, f))
twins-cuts (d ∷ cs) given (u ∷ r) [] k c s t w h i j m b x y = absurd (let f = h.other_fits in grind (arith, f))
twins-cuts (d ∷ cs) given (u ∷ r) (v ∷ q) zero c s t w h i j m b x y = (
  λ n e. let o = subst (λ z. has_cut z.kind z.lo z.hi z.nullable w n ≡ true → (has_cut z.kind z.lo z.hi z.nullable s n || has_cut z.kind z.lo z.hi z.nullable t n) ≡ true) i (b.cuts n) e in
      let left = subst (λ z. has_cut d.kind d.lo d.hi d.nullable z n ≡ true → is_among (first_cuts d given) n ≡ true) (sym j) (x.0 n) in
      let right = subst (λ z. has_cut d.kind d.lo d.hi d.nullable z n ≡ true → is_among (first_cuts d given) n ≡ true) (sym m) (y.0 n) in among_either d given s t n o left right,
  x.1,
)
twins-cuts (d ∷ cs) given (u ∷ r) (v ∷ q) (suc k) c s t w h i j m b x y =
    let z = behind d cs u v r q k h in (x.0, twins-cuts cs (others given) r q k c s t w z.1 i j m b x.1 y.1)

-- rects that differ in one column alone, and the rect with the span of both there
pub twins-joined : (cs : List Column) (r q both : Rect) (k : ℕ) (c : Column) (s t w : Span) → AreTwins cs r q k → c ≡ slice_index_or cs k c → s ≡ slice_index_or r k s → t ≡ slice_index_or q k t
    → IsBoth c s t w → both ≡ slice_set r k w → IsJoined cs (r ∷ q ∷ []) (both ∷ [])
twins-joined cs r q both k c s t w h i j m b e = subst (λ u. IsJoined cs (r ∷ q ∷ []) (u ∷ [])) (sym e) (record {
  same = λ p is. let x = twins-times cs r q k c s t w p h i j m b is in omega (arith, x);
  cuts = λ given a. (twins-fit cs r q k c s t w h i b, twins-cuts cs given r q k c s t w h i j m b a.1 a.2.1, tt);
  few = omega arith;
})

pub joined_trans : (cs : List Column) (a b c : List Rect) → IsJoined cs a b → IsJoined cs b c → IsJoined cs a c
joined_trans cs a b c h k = record {
  same = λ p e. k.same p e ∙ h.same p e;
  cuts = λ given x. k.cuts given (h.cuts given x);
  few = let x = h.few in let y = k.few in omega (arith, x, y);
}

pub joined_fit : (cs : List Column) (a b : List Rect) → IsJoined cs a b → list_all (rect_fits cs) a ≡ true → list_all (rect_fits cs) b ≡ true
joined_fit cs a b h f = are_fit cs a b (h.cuts a (are_self cs a f))

pub are_parts : (cs : List Column) (given a b : List Rect) → AreCutFrom cs given (a ++ b) → AreCutFrom cs given a × AreCutFrom cs given b
are_parts cs given [] b h = (tt, h)
are_parts cs given (r ∷ a) b h = let ih = are_parts cs given a b h.2 in ((h.0, h.1, ih.0), ih.1)

-- what is joined before others
pub joined_front : (cs : List Column) (a b rest : List Rect) → IsJoined cs a b → IsJoined cs (a ++ rest) (b ++ rest)
joined_front cs a b rest h = record {
  same = λ p e. times-append b rest p ∙ (ap (λ n. n + times rest p) (h.same p e) ∙ sym (times-append a rest p));
  cuts = λ given x. let parts = are_parts cs given a rest x in AreCutFrom-append cs given b rest (h.cuts given parts.0) parts.1;
  few = let x = h.few in let l = length-append a rest in let m = length-append b rest in omega (arith, x, l, m);
}

-- a list without the rect of one place
without-times : (rects : List Rect) (i : ℕ) (r : Rect) (p : Row) → slice_get rects i ≡ Some r → times rects p ≡ (if in_rect r p then 1 else 0) + times (take i rects ++ drop (suc i) rects) p
without-times [] i r p e = absurd (cc)
without-times (x ∷ rects) zero r p e = let is : x ≡ r = cc in ap (λ y. (if in_rect y p then 1 else 0) + times rects p) is
without-times (x ∷ rects) (suc i) r p e = let ih = without-times rects i r p e in omega (arith, ih)

without-cuts : (cs : List Column) (given rects : List Rect) (i : ℕ) (r : Rect) → slice_get rects i ≡ Some r → AreCutFrom cs given rects → AreCutFrom cs given (r ∷ []) × AreCutFrom cs given (take i rects ++ drop (suc i) rects)
without-cuts cs given [] i r e h = absurd (cc)
without-cuts cs given (x ∷ rects) zero r e h = let is : x ≡ r = cc in (subst (λ y. AreCutFrom cs given (y ∷ [])) is (h.0, h.1, tt), h.2)
without-cuts cs given (x ∷ rects) (suc i) r e h = let ih = without-cuts cs given rects i r e h.2 in (ih.0, (h.0, h.1, ih.1))

without-length : (rects : List Rect) (i : ℕ) (r : Rect) → slice_get rects i ≡ Some r → suc (length (take i rects ++ drop (suc i) rects)) ≡ length rects
without-length [] i r e = absurd (cc)
without-length (x ∷ rects) zero r e = refl
without-length (x ∷ rects) (suc i) r e = ap suc (without-length rects i r e)

-- a rect makes one with the rect of one place, which is taken out
pub joined_at : (cs : List Column) (rects next : List Rect) (r rect both : Rect) (i : ℕ) → slice_get rects i ≡ Some r → next ≡ take i rects ++ drop (i + 1) rects → IsJoined cs (r ∷ rect ∷ []) (both ∷ [])
    → IsJoined cs (rects ++ rect ∷ []) (next ++ both ∷ [])
joined_at cs rects next r rect both i e n h =
    let more : i + 1 ≡ suc i = omega arith in
    subst (λ l. IsJoined cs (rects ++ rect ∷ []) (l ++ both ∷ [])) (sym (n ∙ ap (λ k. take i rects ++ drop k rects) more)) (record {
      same = λ p is. let x = times-append (take i rects ++ drop (suc i) rects) (both ∷ []) p in let y = times-append rects (rect ∷ []) p in
          let z = without-times rects i r p e in let w = h.same p is in omega (arith, x, y, z, w);
      cuts = λ given x. let parts = are_parts cs given rects (rect ∷ []) x in let two = without-cuts cs given rects i r e parts.0 in
          AreCutFrom-append cs given (take i rects ++ drop (suc i) rects) (both ∷ []) two.1 (h.cuts given (two.0.0, two.0.1, parts.1));
      few = let l = length-append (take i rects ++ drop (suc i) rects) (both ∷ []) in let m = length-append rects (rect ∷ []) in let z = without-length rects i r e in omega (arith, l, m, z);
    })

pub joined_self : (cs : List Column) (rects : List Rect) → IsJoined cs rects rects
joined_self cs rects = record { same = λ p e. refl; cuts = λ given x. x; few = omega arith }

-- the next of the rects that come behind is joined with those before it
pub joined_next : (cs : List Column) (given joined next items rest : List Rect) (r : Rect) → items ≡ r ∷ rest → IsJoined cs given (joined ++ items) → IsJoined cs (joined ++ r ∷ []) next → IsJoined cs given (next ++ rest)
joined_next cs given joined next items rest r e h k =
    let now = subst (λ xs. IsJoined cs given xs) (ap (λ xs. joined ++ xs) e ∙ sym (append_assoc joined (r ∷ []) rest)) h in
    joined_trans cs given ((joined ++ r ∷ []) ++ rest) (next ++ rest) now (joined_front cs (joined ++ r ∷ []) next rest k)

pub fits_at : (cs : List Column) (r : Rect) (k : ℕ) (c : Column) (s : Span) → rect_fits cs r ≡ true → k < length r → c ≡ slice_index_or cs k c → s ≡ slice_index_or r k s → span_fits c s ≡ true
fits_at cs [] k c s f l i j = absurd (omega (arith, l))
fits_at [] (x ∷ r) k c s f l i j = absurd (grind (arith, f))
fits_at (d ∷ cs) (x ∷ r) zero c s f l i j = subst (λ z. span_fits z s ≡ true) (sym i) (subst (λ y. span_fits d y ≡ true) (sym j) (grind (arith, f)))
fits_at (d ∷ cs) (x ∷ r) (suc k) c s f l i j = fits_at cs r k c s (grind (arith, f)) (omega (arith, l)) i j

rest_same : (r q : Rect) (k : ℕ) → take (length r - (k + 1)) (drop (k + 1) r) ≡ take (length q - (k + 1)) (drop (k + 1) q) → drop (suc k) r ≡ drop (suc k) q
rest_same r q k e =
    let more : k + 1 ≡ suc k = omega arith in
    let l = take_all (length r - (k + 1)) (drop (k + 1) r) (let x = length-drop (k + 1) r in omega (arith, x)) in
    let m = take_all (length q - (k + 1)) (drop (k + 1) q) (let x = length-drop (k + 1) q in omega (arith, x)) in
    subst (λ n. drop n r ≡ drop n q) more (sym l ∙ e ∙ m)

-- two rects of which a test has found that they differ in the k-th column alone
pub twins_from : (cs : List Column) (one other ours theirs : Rect) (k : ℕ) → ours ≡ one → theirs ≡ other → rect_fits cs one ≡ true → rect_fits cs other ≡ true → k < length ours
    → take k ours ≡ take k theirs → take (length ours - (k + 1)) (drop (k + 1) ours) ≡ take (length theirs - (k + 1)) (drop (k + 1) theirs) → AreTwins cs ours theirs k
twins_from cs one other ours theirs k i j f g l h e = record {
  fits = subst (λ r. rect_fits cs r ≡ true) (sym i) f;
  other_fits = subst (λ r. rect_fits cs r ≡ true) (sym j) g;
  head = h;
  rest = rest_same ours theirs k e;
  is_column = l;
}

pub twins_given : (cs : List Column) (one other ours theirs both : Rect) → ours ≡ one → theirs ≡ other → IsJoined cs (ours ∷ theirs ∷ []) (both ∷ []) → IsJoined cs (one ∷ other ∷ []) (both ∷ [])
twins_given cs one other ours theirs both i j h = subst (λ r. IsJoined cs (r ∷ other ∷ []) (both ∷ [])) i (subst (λ q. IsJoined cs (ours ∷ q ∷ []) (both ∷ [])) j h)

pub twin_column : (cs : List Column) (r q : Rect) (k : ℕ) → AreTwins cs r q k → k < length q
twin_column cs r q k h = let l = h.is_column in let x = fits_length cs r h.fits in let y = fits_length cs q h.other_fits in omega (arith, l, x, y)

pub all_fit : (cs : List Column) (rects : List Rect) (r : Rect) → list_all (rect_fits cs) rects ≡ true → rect_fits cs r ≡ true → list_all (rect_fits cs) (rects ++ r ∷ []) ≡ true
all_fit cs rects r f g = let x = list_all-append (rect_fits cs) rects (r ∷ []) in grind (arith, f, g, x)

pub each_fit : (cs : List Column) (given rects : List Rect) (r : Rect) → IsJoined cs given (rects ++ r ∷ []) → list_all (rect_fits cs) given ≡ true → (list_all (rect_fits cs) rects ≡ true) × (rect_fits cs r ≡ true)
each_fit cs given rects r h f = let x = list_all-append (rect_fits cs) rects (r ∷ []) in let all = joined_fit cs given (rects ++ r ∷ []) h f in (grind (arith, all, x), grind (arith, all, x))

pub both_fit : (cs : List Column) (rects more : List Rect) → list_all (rect_fits cs) rects ≡ true → list_all (rect_fits cs) more ≡ true → list_all (rect_fits cs) (rects ++ more) ≡ true
both_fit cs rects more f g = let x = list_all-append (rect_fits cs) rects more in grind (arith, f, g, x)

pub next_fit : (cs : List Column) (given joined items rest : List Rect) (r : Rect) → items ≡ r ∷ rest → IsJoined cs given (joined ++ items) → list_all (rect_fits cs) given ≡ true
    → (list_all (rect_fits cs) joined ≡ true) × (rect_fits cs r ≡ true)
next_fit cs given joined items rest r e h f =
    let x = list_all-append (rect_fits cs) joined items in let all = joined_fit cs given (joined ++ items) h f in
    let y : list_all (rect_fits cs) items ≡ list_all (rect_fits cs) (r ∷ rest) = ap (list_all (rect_fits cs)) e in
    (grind (arith, all, x), grind (arith, all, x, y))

-- one step of the loop over the rects: r is the next
pub step_once : (cs : List Column) (rects once left next : List Rect) (i : ℕ) (r : Rect) → list_all (rect_fits cs) rects ≡ true → i < length rects → r ≡ slice_index_or rects i r
    → IsOnce cs (take i rects) once → AreCutFrom cs rects once → IsMinus cs (r ∷ []) once left → AreCutFrom cs (r ∷ once) left → IsJoined cs (once ++ left) next
    → IsOnce cs (take (i + 1) rects) next × AreCutFrom cs rects next
step_once cs rects once left next i r f l e o h m k j = (
  λ p is. j.same p is ∙ subst (λ xs. IsOnce cs xs (once ++ left)) (sym (take_more rects i r l))
      (subst (λ x. IsOnce cs (take i rects ++ x ∷ []) (once ++ left)) e (once_more cs (take i rects) once left r o m)) p is,
  j.cuts rects (AreCutFrom-append cs rects once left h
      (are_trans cs rects (r ∷ once) left (subst (λ x. AreCutFrom cs rects (x ∷ once)) (sym e) (with_one cs rects once i r f l h)) k)),
)
