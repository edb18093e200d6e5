-- What is left by the spans between the values of a list: no more spans than there are values.
use Rattle.std.proofs.Common.{◌≡◌, ℕ, zero, suc, ◌+◌, ◌<◌, ◌≤◌, true, false, List, [], ◌∷◌, ◌++◌, length, take, slice_index_or, refl, sym, subst, arith, ◌∙◌, ap}
use Rattle.std.specs.Prelude.{ℤ, pos, negsuc, int_le, int_lt, Bool, not, ◌&&◌, ◌||◌, Some, flat_map, if◌then◌else◌}
use Rattle.std.specs.List.{list_all, list_any, AllByRecursion}
use Rattle.std.proofs.lemmas.Int.{ints}
use Rattle.std.proofs.lemmas.List.{take_more}
use Rattle.std.proofs.Math.Seq.{take-length}
use Rattle.std.proofs.lemmas.List.Folds.{list_any-append}
use Rattle.sr_cell.specs.declared.cell.Cell.{Cell}
use Rattle.sr_cell.specs.declared.cell.Cell.TheVariants.{Num, Str, Null as NullCell}
use Rattle.sr_cell.specs.declared.table.Kind.{Kind}
use Rattle.sr_cell.specs.declared.table.Kind.TheVariants.{Num as Numbers, Str as Texts}
use Rattle.sr_cell.specs.declared.table.Column.{Column}
use Rattle.sr_cell.specs.Cells.{cell_eq, is_null}
use Rattle.sr_cell.specs.Columns.{in_column}
use Rattle.sr_cell.specs.Names.{is_bad_by, is_bad_domain}
use Rattle.sr_cell.proofs.Order.{cell_eq-sound}
use Rattle.sr_box.specs.declared.span.Span.{Span}
use Rattle.sr_box.specs.declared.span.Span.TheVariants.{Full, Nums, Strs, Null}
use Rattle.sr_box.specs.Cut.{IsInner}
use Rattle.sr_box.specs.Spans.{in_span, span_fits, fits_kind}
use Rattle.sr_union.specs.Grid.{is_among}
use Rattle.sr_union.proofs.Cuts.{is_among-append}
use Rattle.sr_union.proofs.Low.{low_of, low-in}
use Rattle.sr_model.specs.Conditions.{OneOf}
use Rattle.sr_model.specs.Ends.{places_of}
use Rattle.sr_condition.specs.Ranges.{says_test, EndsAt, all_values, in_spans, is_left, times_in, beside, AreSpans, AreApart}
use Rattle.sr_condition.proofs.Joins.{spans-with}
use Rattle.sr_condition.proofs.Apart.{LacksNull, AllLackNull, null-inside, first-in, apart-without, apart-whole}

-- ---- each span has a value of the list, and each value lies in one span at most

-- how many of the values lie in the span
abbrev hits : Column → Span → List Cell → ℕ
hits column s [] = 0
hits column s (v ∷ vs) = (if in_column column v && in_span s v then 1 else 0) + hits column s vs

abbrev all-hits : Column → List Span → List Cell → ℕ
all-hits column [] vs = 0
all-hits column (s ∷ spans) vs = hits column s vs + all-hits column spans vs

no-hits : (column : Column) (spans : List Span) → all-hits column spans [] ≡ 0
no-hits column [] = refl
no-hits column (s ∷ spans) = let ih = no-hits column spans in omega (arith, ih)

more-hits : (column : Column) (spans : List Span) (v : Cell) (vs : List Cell) → all-hits column spans (v ∷ vs) ≡ (if in_column column v then times_in spans v else 0) + all-hits column spans vs
more-hits column [] v vs = grind arith
more-hits column (s ∷ spans) v vs = go (in_column column v) (in_span s v) (times_in spans v) (hits column s vs) (all-hits column spans vs) (all-hits column spans (v ∷ vs)) (more-hits column spans v vs)
  where
    go : (b d : Bool) (t h a n : ℕ) → n ≡ (if b then t else 0) + a
        → ((if b && d then 1 else 0) + h) + n ≡ (if b then (if d then 1 else 0) + t else 0) + (h + a)
    go true true t h a n e = omega (arith, e)
    go true false t h a n e = omega (arith, e)
    go false d t h a n e = omega (arith, e)

hits-most : (column : Column) (spans : List Span) (vs : List Cell) → ((v : Cell) → in_column column v ≡ true → times_in spans v ≤ 1) → all-hits column spans vs ≤ length vs
hits-most column spans [] once = let n = no-hits column spans in omega (arith, n)
hits-most column spans (v ∷ vs) once = go (in_column column v) refl (more-hits column spans v vs) (hits-most column spans vs once)
  where
    go : (b : Bool) → in_column column v ≡ b → all-hits column spans (v ∷ vs) ≡ (if b then times_in spans v else 0) + all-hits column spans vs → all-hits column spans vs ≤ length vs
        → all-hits column spans (v ∷ vs) ≤ length (v ∷ vs)
    go true i e ih = let o = once v i in omega (arith, o, e, ih)
    go false i e ih = omega (arith, e, ih)

some-hit : (column : Column) (s : Span) (vs : List Cell) (u : Cell) → in_column column u ≡ true → in_span s u ≡ true → list_any (cell_eq u) vs ≡ true → 1 ≤ hits column s vs
some-hit column s [] u i h e = absurd (grind arith)
some-hit column s (v ∷ vs) u i h e = go (cell_eq u v) refl e (some-hit column s vs u i h)
  where
    here : v ≡ u → 1 ≤ hits column s (v ∷ vs)
    here is = subst (λ w. 1 ≤ (if in_column column w && in_span s w then 1 else 0) + hits column s vs) (sym is) (rw (i, h) (omega arith))

    go : (b : Bool) → cell_eq u v ≡ b → (b || list_any (cell_eq u) vs) ≡ true → (list_any (cell_eq u) vs ≡ true → 1 ≤ hits column s vs) → 1 ≤ hits column s (v ∷ vs)
    go true k x ih = here (sym (cell_eq-sound u v k))
    go false k x ih = let y = ih x in omega (arith, y)

hits-least : (column : Column) (spans : List Span) (vs : List Cell) → is_bad_domain column ≡ false → list_all (span_fits column) spans ≡ true
    → ((v : Cell) → in_column column v ≡ true → in_spans spans v ≡ true → list_any (cell_eq v) vs ≡ true) → length spans ≤ all-hits column spans vs
hits-least column [] vs good f within = omega arith
hits-least column (s ∷ spans) vs good f within =
    let low = low-in column.kind column.lo column.hi column.nullable s (grind arith) (first-in column.kind column good) in
    let here = low.0 in
    let one = some-hit column s vs (low_of column.kind column.lo s) low.1 low.0 (within (low_of column.kind column.lo s) low.1 (grind (arith, here))) in
    let ih = hits-least column spans vs good (grind arith) (λ v i h. within v i (grind (arith, h))) in
    omega (arith, one, ih)

is-listed : (vs : List Cell) (v : Cell) → says_test true (OneOf vs) v ≡ true → list_any (cell_eq v) vs ≡ true
is-listed vs (Num m) h = h
is-listed vs (Str m) h = h
is-listed vs NullCell h = absurd (cc)

few-spans : (column : Column) (spans : List Span) (vs : List Cell) → is_bad_domain column ≡ false → list_all (span_fits column) spans ≡ true
    → ((v : Cell) → in_column column v ≡ true → in_spans spans v ≡ says_test true (OneOf vs) v) → ((v : Cell) → in_column column v ≡ true → times_in spans v ≤ 1) → length spans ≤ length vs
few-spans column spans vs good f points once =
    let least = hits-least column spans vs good f (λ v i h. is-listed vs v (sym (points v i) ∙ h)) in let most = hits-most column spans vs once in omega (arith, least, most)

-- ---- what is left

one-span : (column : Column) (places : List Cell) (s : Span) → span_fits column s ≡ true → EndsAt column places s → AreSpans column (in_span s) 1 places (s ∷ [])
one-span column places s f at = record { fits = grind arith; points = λ v i. grind arith; few = omega arith; ends = (at, tt) }

apart-with : (column : Column) (a b : Cell → Bool) (m : ℕ) (p q : List Cell) (spans : List Span) → AreApart column a m p spans → ((v : Cell) → in_column column v ≡ true → a v ≡ b v)
    → ((v : Cell) → is_among p v ≡ true → is_among q v ≡ true) → AreApart column b m q spans
apart-with column a b m p q spans apart same ends = record { are = spans-with column a b m m p q spans apart.are same (omega arith) ends; once = apart.once }

left-more : (column : Column) (places : List Cell) (taken : List Span) (s : Span) (most : ℕ) (spans : List Span) → is_bad_domain column ≡ false → LacksNull column s → span_fits column s ≡ true
    → EndsAt column places s
    → AreApart column (is_left taken) most places spans → AreApart column (is_left (taken ++ s ∷ [])) (most + 1) places (flat_map (beside column s) spans)
left-more column places taken s most spans good lacks f at apart =
    apart-with column (λ v. is_left taken v && not (in_span s v)) (is_left (taken ++ s ∷ [])) (most + 1) (places ++ places) places (flat_map (beside column s) spans)
    (apart-without column (is_left taken) (in_span s) most places places spans (Some s) good (λ n. refl) lacks apart (one-span column places s f at))
    (λ v i. let e = list_any-append (λ x. in_span x v) taken (s ∷ []) in grind (arith, e)) (λ v h. let e = is_among-append places places v in grind (arith, e, h))

lacks-in : (column : Column) (spans : List Span) (i : ℕ) (d : Span) → i < length spans → AllLackNull column spans → LacksNull column (slice_index_or spans i d)
lacks-in column [] i d l f = absurd (omega arith)
lacks-in column (s ∷ spans) zero d l f = λ n. let e = f n in grind (arith, e)
lacks-in column (s ∷ spans) (suc i) d l f = lacks-in column spans i d (omega arith) (λ n. let e = f n in grind (arith, e))

fits-in : (column : Column) (spans : List Span) (i : ℕ) (d : Span) → i < length spans → list_all (span_fits column) spans ≡ true → span_fits column (slice_index_or spans i d) ≡ true
fits-in column [] i d l f = absurd (omega arith)
fits-in column (s ∷ spans) zero d l f = grind arith
fits-in column (s ∷ spans) (suc i) d l f = fits-in column spans i d (omega arith) (grind arith)

ends-in : (column : Column) (places : List Cell) (spans : List Span) (i : ℕ) (d : Span) → i < length spans → AllByRecursion (EndsAt column places) spans → EndsAt column places (slice_index_or spans i d)
ends-in column places [] i d l f = absurd (omega arith)
ends-in column places (s ∷ spans) zero d l f = f.0
ends-in column places (s ∷ spans) (suc i) d l f = ends-in column places spans i d (omega arith) f.1

pub fits_at : (column : Column) (spans : List Span) (i : ℕ) (s : Span) → i < length spans → s ≡ slice_index_or spans i s → list_all (span_fits column) spans ≡ true → span_fits column s ≡ true
fits_at column spans i s l e f = subst (λ x. span_fits column x ≡ true) (sym e) (fits-in column spans i s l f)

-- the bounds of a domain lie in the default one
domain-inside : (x y z : Bool) → not (x && (y && z)) ≡ false → (y ≡ true) × (z ≡ true)
domain-inside true true true h = (refl, refl)
domain-inside true true false h = absurd (cc)
domain-inside true false z h = absurd (cc)
domain-inside false y z h = absurd (cc)

span-inside : (x y z w : Bool) → (x && y && z && w) ≡ true → (x ≡ true) × (z ≡ true)
span-inside true true true w h = (refl, refl)
span-inside true true false w h = absurd (cc)
span-inside true false z w h = absurd (cc)
span-inside false y z w h = absurd (cc)

numbers-inner : (low high a b : ℤ) → int_le (negsuc 1099511627775) low ≡ true → int_le high (pos 1099511627775) ≡ true → int_le low a ≡ true → int_le b high ≡ true → IsInner (Nums a b)
numbers-inner low high a b d e f g = (grind (arith, ints), grind (arith, ints))

inner : (k : Kind) (column : Column) (s : Span) → is_bad_by k column ≡ false → fits_kind k column.lo column.hi column.nullable s ≡ true → IsInner s
inner k column Full good f = tt
inner k column Null good f = tt
inner k column (Strs a b) good f = tt
inner Numbers column (Nums a b) good f =
    let d = domain-inside (int_le column.lo column.hi) (int_le (negsuc 1099511627775) column.lo) (int_le column.hi (pos 1099511627775)) good in
    let e = span-inside (int_le column.lo a) (int_le a b) (int_le b column.hi) (column.nullable || (int_lt column.lo a || int_lt b column.hi)) f in
    numbers-inner column.lo column.hi a b d.0 d.1 e.0 e.1
inner Texts column (Nums a b) good f = absurd (cc)

-- the next span that is taken out lies far inside an i64
pub next-inner : (column : Column) (taken items : List Span) (i : ℕ) (s : Span) → is_bad_domain column ≡ false → items ≡ taken → i < length items → s ≡ slice_index_or items i s
    → list_all (span_fits column) taken ≡ true → IsInner s
next-inner column taken items i s good same l at fits =
    inner column.kind column s good (fits_at column items i s l at (subst (λ (xs : List Span). list_all (span_fits column) xs ≡ true) (sym same) fits))

-- at first all values but Null are left
pub left-first : (column : Column) (ends : List Cell) (spans : List Span) → is_bad_domain column ≡ false → spans ≡ all_values column ∷ [] → AreApart column (is_left []) 1 (NullCell ∷ ends) spans
left-first column ends spans good is = subst (AreApart column (is_left []) 1 (NullCell ∷ ends)) (sym is)
    (apart-with column (λ v. not (is_null v)) (is_left []) 1 (NullCell ∷ []) (NullCell ∷ ends) (all_values column ∷ []) (apart-whole column good) (λ v i. grind arith) (λ v h. grind (arith, h)))

-- one span more is taken out
pub left-step : (column : Column) (places : List Cell) (taken items : List Span) (i : ℕ) (s : Span) (spans new : List Span) → is_bad_domain column ≡ false → items ≡ taken → i < length items
    → s ≡ slice_index_or items i s → list_all (span_fits column) taken ≡ true → AllLackNull column taken → new ≡ flat_map (beside column s) spans
    → (AllByRecursion (EndsAt column places) taken → AreApart column (is_left (take i taken)) (i + 1) places spans)
    → AllByRecursion (EndsAt column places) taken → AreApart column (is_left (take (i + 1) taken)) (i + 1 + 1) places new
left-step column places taken items i s spans new good same l e fits lack is before ends =
    subst (λ (xs : List Span). AreApart column (is_left xs) (i + 1 + 1) places new) (sym (take_more taken i s less ∙ ap (λ y. take i taken ++ y ∷ []) (sym at)))
    (subst (AreApart column (is_left (take i taken ++ s ∷ [])) (i + 1 + 1) places) (sym is)
    (left-more column places (take i taken) s (i + 1) spans good (subst (LacksNull column) (sym at) (lacks-in column taken i s less lack)) (fits_at column taken i s less at fits) (subst (EndsAt column places) (sym at) (ends-in column places taken i s less ends)) (before ends)))
  where
    less : i < length taken
    less = subst (λ xs. i < length xs) same l

    at : s ≡ slice_index_or taken i s
    at = subst (λ (xs : List Span). s ≡ slice_index_or xs i s) same e

pub left-done : (column : Column) (places : List Cell) (taken items : List Span) (i : ℕ) (spans : List Span) → items ≡ taken → i ≤ length items → length items ≤ i
    → AreApart column (is_left (take i taken)) (i + 1) places spans → AreApart column (is_left taken) (length taken + 1) places spans
left-done column places taken items i spans same most least apart =
    subst (λ (xs : List Span). AreApart column (is_left xs) (length taken + 1) places spans) (take-length taken)
    (subst (λ n. AreApart column (is_left (take n taken)) (n + 1) places spans) end apart)
  where
    end : i ≡ length taken
    end = let e = ap length same in omega (arith, e, most, least)

-- what is left by the spans between the values has the values
pub inside-spans : (column : Column) (vs : List Cell) (most : ℕ) (between : List Span) (n : ℕ) (spans : List Span) → is_bad_domain column ≡ false
    → AreSpans column (says_test false (OneOf vs)) most (places_of (OneOf vs)) between → AreApart column (is_left between) n (places_of (OneOf vs)) spans
    → AreSpans column (says_test true (OneOf vs)) (length vs) (places_of (OneOf vs)) spans
inside-spans column vs most between n spans good between-are left = record {
  fits = left.are.fits;
  points = points;
  few = few-spans column spans vs good left.are.fits points left.once;
  ends = left.are.ends;
}
  where
    points : (v : Cell) → in_column column v ≡ true → in_spans spans v ≡ says_test true (OneOf vs) v
    points (Num m) i = let x = left.are.points (Num m) i in let y = between-are.points (Num m) i in grind (arith, x, y)
    points (Str m) i = let x = left.are.points (Str m) i in let y = between-are.points (Str m) i in grind (arith, x, y)
    points NullCell i = left.are.points NullCell i

-- no span between the values has Null
pub between-lack : (column : Column) (vs : List Cell) (most : ℕ) (spans : List Span) → AreSpans column (says_test false (OneOf vs)) most (places_of (OneOf vs)) spans → AllLackNull column spans
between-lack column vs most spans are n = are.points NullCell (null-inside column.kind column.lo column.hi column.nullable n)
