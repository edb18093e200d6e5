-- What is left of spans without a part of their column.
use Rattle.std.proofs.Common.{◌≡◌, ℕ, ◌+◌, ◌≤◌, true, false, List, [], ◌∷◌, ◌++◌, length, refl, arith, ◌∙◌, cond}
use Rattle.std.specs.Prelude.{ℤ, int_le, Bool, not, ◌&&◌, ◌||◌, Option, Some, None, option_to_list, flat_map, pos, ◌+ℤ◌, ◌-ℤ◌, if◌then◌else◌}
use Rattle.std.specs.Int.{int_max, int_min}
use Rattle.std.specs.List.{list_all, AllByRecursion}
use Rattle.std.proofs.lemmas.Int.{ints}
use Rattle.std.proofs.lemmas.List.{length-append}
use Rattle.std.proofs.lemmas.List.Folds.{list_any-append, list_all-append}
use Rattle.sr_cell.specs.declared.cell.Cell.{Cell}
use Rattle.sr_cell.specs.declared.cell.Cell.TheVariants.{Num, Str, Null as NullCell}
use Rattle.sr_cell.specs.declared.table.Kind.{Kind}
use Rattle.sr_cell.specs.declared.table.Kind.TheVariants.{Num as Numbers, Str as Texts}
use Rattle.sr_cell.specs.declared.table.Column.{Column}
use Rattle.sr_cell.specs.Cells.{text_le, is_null}
use Rattle.sr_cell.specs.Columns.{in_kind, in_column}
use Rattle.sr_cell.specs.Names.{is_bad_by, is_bad_domain}
use Rattle.sr_cell.proofs.Order.{text_le-trans, text_le-total}
use Rattle.sr_cell.proofs.Columns.{in_kind-low, in_kind-high}
use Rattle.sr_box.specs.declared.span.Span.{Span}
use Rattle.sr_box.specs.declared.span.Span.TheVariants.{Full, Nums, Strs, Null}
use Rattle.sr_box.specs.Spans.{in_span, span_fits, fits_kind, is_below}
use Rattle.sr_box.specs.Corners.{first_value}
use Rattle.sr_box.specs.Cut.{nums, strs, text_max, end_min, under, over, values, is_under, is_over, is_beyond, in_maybe}
use Rattle.sr_box.proofs.Fits.{maybe_fits, under-fits, over-fits, beyond-fits}
use Rattle.sr_box.proofs.Order.{end_min-is}
use Rattle.sr_box.proofs.Parts.{under-is, over-is, beyond-is, apart-is}
use Rattle.sr_union.specs.Grid.{is_among, has_cut}
use Rattle.sr_union.proofs.Cuts.{maybe_cut, under-cut, over-cut, beyond-cut}
use Rattle.sr_union.proofs.Low.{low_of, low-in}
use Rattle.sr_union.proofs.SpanCuts.{no_cut-full}
use Rattle.sr_condition.specs.Ranges.{EndsAt, all_values, in_spans, times_in, beside, without, AreSpans, AreApart}
use Rattle.sr_condition.proofs.Joins.{ends-append, in_left, in_right, spans-with}

-- ---- of one span

some-in : (m : Option Span) (v : Cell) → in_spans (option_to_list m) v ≡ in_maybe m v
some-in None v = refl
some-in (Some s) v = grind arith

some-times : (m : Option Span) (v : Cell) → times_in (option_to_list m) v ≡ (if in_maybe m v then 1 else 0)
some-times None v = refl
some-times (Some s) v = omega arith

some-fits : (column : Column) (m : Option Span) → maybe_fits column.kind column.lo column.hi column.nullable m ≡ true → list_all (span_fits column) (option_to_list m) ≡ true
some-fits column None h = refl
some-fits column (Some s) h = grind arith

some-ends : (column : Column) (places : List Cell) (m : Option Span) → ((v : Cell) → maybe_cut column.kind column.lo column.hi column.nullable m v ≡ true → is_among places v ≡ true)
    → AllByRecursion (EndsAt column places) (option_to_list m)
some-ends column places None h = tt
some-ends column places (Some s) h = (h, tt)

times-append : (a b : List Span) (v : Cell) → times_in (a ++ b) v ≡ times_in a v + times_in b v
times-append [] b v = omega arith
times-append (s ∷ a) b v = let ih = times-append a b v in omega (arith, ih)

-- where a column may have Null, the span has it not
abbrev pub LacksNull : Column → Span → Type 0
LacksNull column s = column.nullable ≡ true → in_span s NullCell ≡ false

null-nullable : (k : Kind) (low high : ℤ) (n : Bool) → in_kind k low high n NullCell ≡ true → n ≡ true
null-nullable Numbers low high n h = h
null-nullable Texts low high n h = h

pub null-inside : (k : Kind) (low high : ℤ) (n : Bool) → n ≡ true → in_kind k low high n NullCell ≡ true
null-inside Numbers low high n h = h
null-inside Texts low high n h = h

lacks-at : (column : Column) (s : Span) (v : Cell) → LacksNull column s → in_column column v ≡ true → is_null v ≡ true → in_span s v ≡ false
lacks-at column s (Num m) lacks i h = absurd (cc)
lacks-at column s (Str m) lacks i h = absurd (cc)
lacks-at column s NullCell lacks i h = lacks (null-nullable column.kind column.lo column.hi column.nullable i)

-- nothing but Null lies beyond it
null-beyond : (k : Kind) (low high : ℤ) (n : Bool) (t : Span) (v : Cell) → fits_kind k low high n t ≡ true → (n ≡ true → in_span t NullCell ≡ false) → is_null v ≡ false → is_beyond t v ≡ false
null-beyond k low high n Full v f lacks h = refl
null-beyond k low high n (Nums c d) v f lacks h = h
null-beyond k low high n (Strs c d) v f lacks h = h
null-beyond k low high n Null v f lacks h = absurd (let l = lacks f in cc)

beside-in : (column : Column) (t s : Span) (v : Cell) → LacksNull column t → LacksNull column s → span_fits column t ≡ true → in_column column v ≡ true
    → in_spans (beside column t s) v ≡ (in_span s v && not (in_span t v))
beside-in column t s v lacks no_null f p = go (is_null v) refl
  where
    u : in_maybe (under column.lo s t) v ≡ (in_span s v && is_under t v)
    u = under-is column.lo s t v (in_kind-low column.kind column.lo column.hi column.nullable v p)

    o : in_maybe (over column.hi s t) v ≡ (in_span s v && is_over t v)
    o = over-is column.hi s t v (in_kind-high column.kind column.lo column.hi column.nullable v p)

    pieces : in_spans (beside column t s) v ≡ ((in_span s v && is_under t v) || (in_span s v && is_over t v))
    pieces = let x = some-in (under column.lo s t) v in let y = some-in (over column.hi s t) v in
        list_any-append (λ w. in_span w v) (option_to_list (under column.lo s t)) (option_to_list (over column.hi s t)) ∙ grind (arith, u, o, x, y)

    go : (b : Bool) → is_null v ≡ b → in_spans (beside column t s) v ≡ (in_span s v && not (in_span t v))
    go true h = let l = lacks-at column s v no_null p h in pieces ∙ grind (arith, l)
    go false h = let a = (apart-is column.kind column.lo column.hi column.nullable t v f p).0 in
        let b = null-beyond column.kind column.lo column.hi column.nullable t v f lacks h in pieces ∙ grind (arith, a, b)

beside-times : (column : Column) (t s : Span) (v : Cell) → span_fits column t ≡ true → in_column column v ≡ true → times_in (beside column t s) v ≤ (if in_span s v then 1 else 0)
beside-times column t s v f p =
    let u = under-is column.lo s t v (in_kind-low column.kind column.lo column.hi column.nullable v p) in let o = over-is column.hi s t v (in_kind-high column.kind column.lo column.hi column.nullable v p) in
    let a = apart-is column.kind column.lo column.hi column.nullable t v f p in let a1 = a.1 in
    let x = some-times (under column.lo s t) v in let y = some-times (over column.hi s t) v in
    let z = times-append (option_to_list (under column.lo s t)) (option_to_list (over column.hi s t)) v in
    go (in_maybe (under column.lo s t) v) (in_maybe (over column.hi s t) v) (in_span s v) (is_under t v) (is_over t v) _ u o a1 (z ∙ grind (arith, x, y))
  where
    go : (i j b m n : Bool) (k : ℕ) → i ≡ (b && m) → j ≡ (b && n) → (m && n) ≡ false → k ≡ (if i then 1 else 0) + (if j then 1 else 0) → k ≤ (if b then 1 else 0)
    go i j true m n k e f g h = grind arith
    go i j false m n k e f g h = grind arith

beside-fits : (column : Column) (t s : Span) → span_fits column t ≡ true → span_fits column s ≡ true → list_all (span_fits column) (beside column t s) ≡ true
beside-fits column t s f g =
    let x = some-fits column (under column.lo s t) (under-fits column.kind column.lo column.hi column.nullable s t g f) in
    let y = some-fits column (over column.hi s t) (over-fits column.kind column.lo column.hi column.nullable s t g f) in
    list_all-append (span_fits column) (option_to_list (under column.lo s t)) (option_to_list (over column.hi s t)) ∙ grind arith

beside-ends : (column : Column) (p q : List Cell) (t s : Span) → span_fits column s ≡ true → EndsAt column p s → EndsAt column q t → AllByRecursion (EndsAt column (p ++ q)) (beside column t s)
beside-ends column p q t s g h k = ends-append column (p ++ q) (option_to_list (under column.lo s t)) (option_to_list (over column.hi s t))
    (some-ends column (p ++ q) (under column.lo s t) (λ v e. one v (under-cut column.kind column.lo column.hi column.nullable s t v g e)))
    (some-ends column (p ++ q) (over column.hi s t) (λ v e. one v (over-cut column.kind column.lo column.hi column.nullable s t v g e)))
  where
    go : (v : Cell) (a b : Bool) → (a ≡ true → is_among p v ≡ true) → (b ≡ true → is_among q v ≡ true) → (a || b) ≡ true → is_among (p ++ q) v ≡ true
    go v true b x y c = in_left p q v (x refl)
    go v false true x y c = in_right p q v (y refl)
    go v false false x y c = absurd (cc)

    one : (v : Cell) → (has_cut column.kind column.lo column.hi column.nullable s v || has_cut column.kind column.lo column.hi column.nullable t v) ≡ true → is_among (p ++ q) v ≡ true
    one v c = go v (has_cut column.kind column.lo column.hi column.nullable s v) (has_cut column.kind column.lo column.hi column.nullable t v) (h v) (k v) c

-- ---- a span that reaches to both sides of the part has its first value

some-length : (m : Option Span) → length (option_to_list m) ≤ 1
some-length None = omega arith
some-length (Some s) = omega arith

both-most : (m n : Option Span) → length (option_to_list m ++ option_to_list n) ≤ 2
both-most m n = let a = some-length m in let b = some-length n in let l = length-append (option_to_list m) (option_to_list n) in omega arith

right-most : (n : Option Span) (b : Bool) → length (option_to_list n) ≤ 1 + (if b then 1 else 0)
right-most n b = let a = some-length n in grind arith

left-most : (m : Option Span) (b : Bool) → length (option_to_list m ++ []) ≤ 1 + (if b then 1 else 0)
left-most None b = grind arith
left-most (Some s) b = grind arith

number-sides : (a b c d : ℤ) → int_le c d ≡ true → int_le a (int_min b (c -ℤ pos 1)) ≡ true → int_le (int_max a (d +ℤ pos 1)) b ≡ true → (int_le a c && int_le c b) ≡ true
number-sides a b c d f u o = grind (arith, ints)

numbers-most : (a b c d : ℤ) → int_le c d ≡ true
    → length (option_to_list (nums a (int_min b (c -ℤ pos 1))) ++ option_to_list (nums (int_max a (d +ℤ pos 1)) b)) ≤ 1 + (if int_le a c && int_le c b then 1 else 0)
numbers-most a b c d f = go (int_le a (int_min b (c -ℤ pos 1))) (int_le (int_max a (d +ℤ pos 1)) b) (number-sides a b c d f)
  where
    go : (x y : Bool) → (x ≡ true → y ≡ true → (int_le a c && int_le c b) ≡ true)
        → length (option_to_list (cond x (Some (Nums a (int_min b (c -ℤ pos 1)))) None) ++ option_to_list (cond y (Some (Nums (int_max a (d +ℤ pos 1)) b)) None)) ≤ 1 + (if int_le a c && int_le c b then 1 else 0)
    go true true h = let e = h refl refl in rw e (omega arith)
    go false y h = right-most (cond y (Some (Nums (int_max a (d +ℤ pos 1)) b)) None) (int_le a c && int_le c b)
    go true false h = left-most (Some (Nums a (int_min b (c -ℤ pos 1)))) (int_le a c && int_le c b)

above-end : (a c d e : List ℕ) → text_le d c ≡ false → text_le e (text_max a d) ≡ false → text_le e c ≡ false
above-end a c d e f g = go (text_le e c) refl
  where
    go : (b : Bool) → text_le e c ≡ b → b ≡ false
    go false h = refl
    go true h = let t = text_le-total d c f in let u = text_le-trans e c d h t in let w = text_le-total a d in let x = text_le-trans e d a u in absurd (grind arith)

below-end : (a c d : List ℕ) (b : Option (List ℕ)) → text_le d c ≡ false → is_below (text_max a d) b ≡ true → is_below c b ≡ true
below-end a c d None f g = refl
below-end a c d (Some e) f g = let h = above-end a c d e f in grind (arith, h)

text-sides : (a c d : List ℕ) (b : Option (List ℕ)) → text_le d c ≡ false → is_below a (end_min b (Some c)) ≡ true → is_below (text_max a d) b ≡ true → (text_le a c && is_below c b) ≡ true
text-sides a c d b f u o = let e = end_min-is b (Some c) a in let t = text_le-total c a in let x = below-end a c d b f o in grind (arith, e, t, x)

texts-most : (a c d : List ℕ) (b : Option (List ℕ)) → text_le d c ≡ false
    → length (option_to_list (strs a (end_min b (Some c))) ++ option_to_list (strs (text_max a d) b)) ≤ 1 + (if text_le a c && is_below c b then 1 else 0)
texts-most a c d b f = go (is_below a (end_min b (Some c))) (is_below (text_max a d) b) (text-sides a c d b f)
  where
    go : (x y : Bool) → (x ≡ true → y ≡ true → (text_le a c && is_below c b) ≡ true)
        → length (option_to_list (cond x (Some (Strs a (end_min b (Some c)))) None) ++ option_to_list (cond y (Some (Strs (text_max a d) b)) None)) ≤ 1 + (if text_le a c && is_below c b then 1 else 0)
    go true true h = let e = h refl refl in rw e (omega arith)
    go false y h = right-most (cond y (Some (Strs (text_max a d) b)) None) (text_le a c && is_below c b)
    go true false h = left-most (Some (Strs a (end_min b (Some c)))) (text_le a c && is_below c b)

sides-most : (k : Kind) (low high : ℤ) (n : Bool) (t s : Span) → fits_kind k low high n t ≡ true
    → length (option_to_list (under low s t) ++ option_to_list (over high s t)) ≤ 1 + (if in_span s (low_of k low t) then 1 else 0)
unfolding low_of
sides-most k low high n Full Full f = omega arith
sides-most k low high n Full (Nums a b) f = left-most None (in_span (Nums a b) (first_value k low))
sides-most k low high n Full (Strs a b) f = left-most None (in_span (Strs a b) (first_value k low))
sides-most k low high n Full Null f = left-most None (in_span Null (first_value k low))
sides-most k low high n (Nums c d) Full f = both-most (nums low (c -ℤ pos 1)) (nums (d +ℤ pos 1) high)
sides-most Numbers low high n (Nums c d) (Nums a b) f = numbers-most a b c d (grind arith)
sides-most Texts low high n (Nums c d) (Nums a b) f = absurd (grind arith)
sides-most k low high n (Nums c d) (Strs a b) f = left-most None false
sides-most k low high n (Nums c d) Null f = left-most None false
sides-most k low high n (Strs c d) Full f = both-most (strs [] (Some c)) (over high Full (Strs c d))
sides-most k low high n (Strs c d) (Nums a b) f = left-most None false
sides-most k low high n (Strs c d) Null f = left-most None false
sides-most k low high n (Strs c None) (Strs a b) f = left-most (strs a (end_min b (Some c))) (text_le a c && is_below c b)
sides-most Numbers low high n (Strs c (Some d)) (Strs a b) f = absurd (grind arith)
sides-most Texts low high n (Strs c (Some d)) (Strs a b) f = texts-most a c d b (grind arith)
sides-most k low high n Null Full f = left-most None true
sides-most k low high n Null (Nums a b) f = left-most None false
sides-most k low high n Null (Strs a b) f = left-most None false
sides-most k low high n Null Null f = left-most None true

-- ---- of several spans

-- where a column may have Null, no span has it
abbrev pub AllLackNull : Column → List Span → Type 0
AllLackNull column spans = column.nullable ≡ true → in_spans spans NullCell ≡ false

left-in : (column : Column) (t : Span) (spans : List Span) (v : Cell) → LacksNull column t → AllLackNull column spans → span_fits column t ≡ true → in_column column v ≡ true
    → in_spans (flat_map (beside column t) spans) v ≡ (in_spans spans v && not (in_span t v))
left-in column t [] v lacks all f p = refl
left-in column t (s ∷ spans) v lacks all f p =
    let ih = left-in column t spans v lacks (λ n. let a = all n in grind (arith, a)) f p in
    let one = beside-in column t s v lacks (λ n. let a = all n in grind (arith, a)) f p in
    list_any-append (λ w. in_span w v) (beside column t s) (flat_map (beside column t) spans) ∙ grind (arith, ih, one)

left-times : (column : Column) (t : Span) (spans : List Span) (v : Cell) → span_fits column t ≡ true → in_column column v ≡ true
    → times_in (flat_map (beside column t) spans) v ≤ times_in spans v
left-times column t [] v f p = omega arith
left-times column t (s ∷ spans) v f p = let ih = left-times column t spans v f p in let one = beside-times column t s v f p in
    let z = times-append (beside column t s) (flat_map (beside column t) spans) v in omega (arith, ih, one, z)

left-fits : (column : Column) (t : Span) (spans : List Span) → span_fits column t ≡ true → list_all (span_fits column) spans ≡ true → list_all (span_fits column) (flat_map (beside column t) spans) ≡ true
left-fits column t [] f g = refl
left-fits column t (s ∷ spans) f g = let ih = left-fits column t spans f (grind arith) in let one = beside-fits column t s f (grind arith) in
    list_all-append (span_fits column) (beside column t s) (flat_map (beside column t) spans) ∙ grind arith

left-ends : (column : Column) (p q : List Cell) (t : Span) (spans : List Span) → list_all (span_fits column) spans ≡ true → AllByRecursion (EndsAt column p) spans → EndsAt column q t
    → AllByRecursion (EndsAt column (p ++ q)) (flat_map (beside column t) spans)
left-ends column p q t [] g h k = tt
left-ends column p q t (s ∷ spans) g h k =
    ends-append column (p ++ q) (beside column t s) (flat_map (beside column t) spans) (beside-ends column p q t s (grind arith) h.0 k) (left-ends column p q t spans (grind arith) h.1 k)

left-most-spans : (column : Column) (t : Span) (spans : List Span) → span_fits column t ≡ true → length (flat_map (beside column t) spans) ≤ length spans + times_in spans (low_of column.kind column.lo t)
left-most-spans column t [] f = omega arith
left-most-spans column t (s ∷ spans) f =
    let ih = left-most-spans column t spans f in let one = sides-most column.kind column.lo column.hi column.nullable t s f in
    let l = length-append (beside column t s) (flat_map (beside column t) spans) in omega (arith, ih, one, l)

pub first-in : (k : Kind) (column : Column) → is_bad_by k column ≡ false → in_kind k column.lo column.hi column.nullable (first_value k column.lo) ≡ true
first-in Numbers column good = grind (arith, ints)
first-in Texts column good = refl

-- spans apart without a part of the column: one more at most
pub apart-without : (column : Column) (values taken : Cell → Bool) (most : ℕ) (p q : List Cell) (spans : List Span) (m : Option Span) → is_bad_domain column ≡ false
    → (column.nullable ≡ true → values NullCell ≡ false) → (column.nullable ≡ true → taken NullCell ≡ false)
    → AreApart column values most p spans → AreSpans column taken 1 q (option_to_list m) → AreApart column (λ v. values v && not (taken v)) (most + 1) (p ++ q) (without column m spans)
apart-without column values taken most p q spans None good no_null none_taken apart part = record {
  are = spans-with column values (λ v. values v && not (taken v)) most (most + 1) p (p ++ q) spans apart.are (λ v i. let n = part.points v i in grind (arith, n)) (omega arith) (in_left p q);
  once = apart.once;
}
apart-without column values taken most p q spans (Some t) good no_null none_taken apart part =
    let fits : span_fits column t ≡ true = let f = part.fits in grind arith in
    let low = low-in column.kind column.lo column.hi column.nullable t fits (first-in column.kind column good) in
    let inside : column.nullable ≡ true → in_column column NullCell ≡ true = null-inside column.kind column.lo column.hi column.nullable in
    let lacks : LacksNull column t = λ n. let x = part.points NullCell (inside n) in let y = none_taken n in grind (arith, x, y) in
    let all : AllLackNull column spans = λ n. apart.are.points NullCell (inside n) ∙ no_null n in
    record {
      are = record {
        fits = left-fits column t spans fits apart.are.fits;
        points = λ v i. let x = left-in column t spans v lacks all fits i in let y = apart.are.points v i in let z = part.points v i in grind (arith, x, y, z);
        few = let l = left-most-spans column t spans fits in let n = apart.are.few in let o = apart.once (low_of column.kind column.lo t) low.1 in omega (arith, l, n, o);
        ends = left-ends column p q t spans apart.are.fits apart.are.ends part.ends.0;
      };
      once = λ v i. let x = left-times column t spans v fits i in let y = apart.once v i in omega (arith, x, y);
    }

-- ---- all values but Null

domain-order : (k : Kind) (column : Column) → is_bad_by k column ≡ false → k ≡ Numbers → int_le column.lo column.hi ≡ true
domain-order Numbers column good is = grind arith
domain-order Texts column good is = absurd (cc)

all-fit : (k : Kind) (low high : ℤ) (n : Bool) → (k ≡ Numbers → int_le low high ≡ true) → fits_kind k low high n (if n then values k low high else Full) ≡ true
all-fit k low high true order = beyond-fits k low high true Full Null order refl refl
all-fit k low high false order = refl

all-are : (k : Kind) (low high : ℤ) (n : Bool) (v : Cell) → in_kind k low high n v ≡ true → in_span (if n then values k low high else Full) v ≡ not (is_null v)
all-are k low high true v i = beyond-is k low high true Full Null v i
all-are k low high false (Num m) i = refl
all-are k low high false (Str m) i = refl
all-are k low high false NullCell i = absurd (let e = null-nullable k low high false i in cc)

null-cut : (k : Kind) (low high : ℤ) (v : Cell) → has_cut k low high true Null v ≡ is_among (NullCell ∷ []) v
null-cut Numbers low high v = refl
null-cut Texts low high v = refl

all-end : (k : Kind) (low high : ℤ) (n : Bool) (v : Cell) → has_cut k low high n (if n then values k low high else Full) v ≡ true → is_among (NullCell ∷ []) v ≡ true
all-end k low high true v h =
    let c = beyond-cut k low high true Full Null v refl h in let full = no_cut-full k low high true v in let null = null-cut k low high v in grind (arith, c, full, null)
all-end k low high false v h = let full = no_cut-full k low high false v in absurd (grind (arith, full))

pub apart-whole : (column : Column) → is_bad_domain column ≡ false → AreApart column (λ v. not (is_null v)) 1 (NullCell ∷ []) (all_values column ∷ [])
apart-whole column good = record {
  are = record {
    fits = let f = all-fit column.kind column.lo column.hi column.nullable (domain-order column.kind column good) in grind (arith, f);
    points = λ v i. let a = all-are column.kind column.lo column.hi column.nullable v i in grind (arith, a);
    few = omega arith;
    ends = (all-end column.kind column.lo column.hi column.nullable, tt);
  };
  once = λ v i. once (in_span (all_values column) v);
}
  where
    once : (b : Bool) → (if b then 1 else 0) + 0 ≤ 1
    once true = omega arith
    once false = omega arith
