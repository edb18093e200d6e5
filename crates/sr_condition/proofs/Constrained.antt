-- The rect that constrains one column alone.
use Rattle.std.proofs.Common.{◌≡◌, ℕ, zero, suc, ◌+◌, ◌<◌, ◌≤◌, true, false, List, [], ◌∷◌, ◌++◌, length, take, slice_index_or, refl, sym, subst, arith, ◌∙◌, ap}
use Rattle.std.specs.Prelude.{Bool, ◌==◌, map, if◌then◌else◌}
use Rattle.std.specs.List.{list_all, AllByRecursion}
use Rattle.std.proofs.lemmas.Bool.Decides.{nat_tests}
use Rattle.std.proofs.lemmas.List.{take_more, take_all, length-set}
use Rattle.sr_cell.specs.declared.cell.Cell.{Cell}
use Rattle.sr_cell.specs.declared.table.Column.{Column}
use Rattle.sr_cell.specs.Cells.{Row, cell_at}
use Rattle.sr_cell.specs.Columns.{in_column, is_point}
use Rattle.sr_box.specs.declared.span.Span.{Span}
use Rattle.sr_box.specs.declared.span.Span.TheVariants.{Full}
use Rattle.sr_box.specs.Spans.{in_span, span_fits}
use Rattle.sr_box.specs.Points.{Rect, in_rect, in_any, rect_fits, full_rect}
use Rattle.sr_model.specs.Conditions.{Cond, Test, Tests}
use Rattle.sr_model.specs.Ends.{places_of, ends}
use Rattle.sr_model.specs.Width.{test_width}
use Rattle.sr_union.proofs.SpanCuts.{no_cut-full}
use Rattle.sr_query.specs.Bound.{EndsWithTests}
use Rattle.sr_condition.specs.Ranges.{says_test, in_spans, EndsAt, AreSpans}
use Rattle.sr_condition.specs.Said.{says, rect_with, AreRects}

-- ---- the rect that has all points

pub full-in : (columns : List Column) (p : Row) → is_point columns p ≡ true → in_rect (full_rect columns) p ≡ true
full-in [] [] h = refl
full-in [] (v ∷ p) h = absurd (grind arith)
full-in (c ∷ columns) [] h = absurd (grind arith)
full-in (c ∷ columns) (v ∷ p) h = full-in columns p (grind arith)

pub full-fits : (columns : List Column) → rect_fits columns (full_rect columns) ≡ true
full-fits [] = refl
full-fits (c ∷ columns) = full-fits columns

pub full-ends : (n : ℕ) (columns : List Column) (condition : Cond) → EndsWithTests n columns condition (full_rect columns)
full-ends n [] condition = tt
full-ends n (c ∷ columns) condition = ((λ v h. let e = no_cut-full c.kind c.lo c.hi c.nullable v in absurd (grind (arith, e))), full-ends (n + 1) columns condition)

-- ---- with one constrained column

with-in : (columns : List Column) (c : ℕ) (s : Span) (p : Row) → is_point columns p ≡ true → c < length columns → in_rect (rect_with columns c s) p ≡ in_span s (cell_at p c)
with-in [] c s p h l = absurd (omega arith)
with-in (column ∷ columns) c s [] h l = absurd (grind arith)
with-in (column ∷ columns) zero s (v ∷ p) h l = let f = full-in columns p (grind arith) in grind (arith, f)
with-in (column ∷ columns) (suc c) s (v ∷ p) h l = with-in columns c s p (grind arith) (omega arith)

with-fits : (columns : List Column) (c : ℕ) (s : Span) (d : Column) → c < length columns → span_fits (slice_index_or columns c d) s ≡ true → rect_fits columns (rect_with columns c s) ≡ true
with-fits [] c s d l f = absurd (omega arith)
with-fits (column ∷ columns) zero s d l f = let g = full-fits columns in grind (arith, g)
with-fits (column ∷ columns) (suc c) s d l f = with-fits columns c s d (omega arith) f

with-ends : (n k : ℕ) (columns : List Column) (c : ℕ) (s : Span) (d : Column) (condition : Cond) → k ≡ n + c → c < length columns → EndsAt (slice_index_or columns c d) (ends k condition) s
    → EndsWithTests n columns condition (rect_with columns c s)
with-ends n k [] c s d condition e l h = absurd (omega arith)
with-ends n k (column ∷ columns) zero s d condition e l h =
    let same : k ≡ n = omega arith in (subst (λ (m : ℕ). EndsAt column (ends m condition) s) same h, full-ends (n + 1) columns condition)
with-ends n k (column ∷ columns) (suc c) s d condition e l h =
    ((λ v x. let f = no_cut-full column.kind column.lo column.hi column.nullable v in absurd (grind (arith, f))), with-ends (n + 1) k columns c s d condition (omega arith) (omega arith) h)

-- a point of the table has a value of each column
value-in : (columns : List Column) (c : ℕ) (p : Row) (d : Column) → is_point columns p ≡ true → c < length columns → in_column (slice_index_or columns c d) (cell_at p c) ≡ true
value-in [] c p d h l = absurd (omega arith)
value-in (column ∷ columns) c [] d h l = absurd (grind arith)
value-in (column ∷ columns) zero (v ∷ p) d h l = grind arith
value-in (column ∷ columns) (suc c) (v ∷ p) d h l = value-in columns c p d (grind arith) (omega arith)

-- ---- the rects of spans

all-in : (columns : List Column) (c : ℕ) (spans : List Span) (p : Row) → is_point columns p ≡ true → c < length columns → in_any (map (rect_with columns c) spans) p ≡ in_spans spans (cell_at p c)
all-in columns c [] p h l = refl
all-in columns c (s ∷ spans) p h l = let ih = all-in columns c spans p h l in let one = with-in columns c s p h l in grind (arith, ih, one)

all-fit : (columns : List Column) (c : ℕ) (spans : List Span) (d : Column) → c < length columns → list_all (span_fits (slice_index_or columns c d)) spans ≡ true → list_all (rect_fits columns) (map (rect_with columns c) spans) ≡ true
all-fit columns c [] d l f = refl
all-fit columns c (s ∷ spans) d l f = let ih = all-fit columns c spans d l (grind arith) in let one = with-fits columns c s d l (grind arith) in grind (arith, ih, one)

own-ends : (c : ℕ) (t : Test) → ends c (Tests c t) ≡ places_of t
own-ends c t = go (c == c) (grind (arith, nat_tests))
  where
    go : (b : Bool) → b ≡ true → (if b then places_of t else []) ≡ places_of t
    go true e = refl
    go false e = absurd (cc)

all-end : (columns : List Column) (c : ℕ) (spans : List Span) (d : Column) (t : Test) → c < length columns → AllByRecursion (EndsAt (slice_index_or columns c d) (places_of t)) spans
    → AllByRecursion (EndsWithTests 0 columns (Tests c t)) (map (rect_with columns c) spans)
all-end columns c [] d t l h = tt
all-end columns c (s ∷ spans) d t l h =
    (with-ends 0 c columns c s d (Tests c t) (omega arith) l (subst (λ (places : List Cell). EndsAt (slice_index_or columns c d) places s) (sym (own-ends c t)) h.0), all-end columns c spans d t l h.1)

same-length : {A B : Type 0} (f : A → B) (xs : List A) → length (map f xs) ≡ length xs
same-length f [] = refl
same-length f (x ∷ xs) = let ih = same-length f xs in omega (arith, ih)

test-says : (plain : Bool) (c : ℕ) (t : Test) (p : Row) → says_test plain t (cell_at p c) ≡ says plain (Tests c t) p
test-says plain c t p = refl

test-rects : (columns : List Column) (c : ℕ) (d : Column) (plain : Bool) (t : Test) (spans : List Span) (rects : List Rect) → c < length columns → rects ≡ map (rect_with columns c) spans
    → AreSpans (slice_index_or columns c d) (says_test plain t) (test_width plain t) (places_of t) spans → AreRects columns plain (Tests c t) rects
test-rects columns c d plain t spans rects l is are = subst (AreRects columns plain (Tests c t)) (sym is) (record {
  fits = all-fit columns c spans d l are.fits;
  points = λ p h. all-in columns c spans p h l ∙ (are.points (cell_at p c) (value-in columns c p d h l) ∙ test-says plain c t p);
  few = let n = same-length (rect_with columns c) spans in let f = are.few in omega (arith, n, f);
  ends = all-end columns c spans d t l are.ends;
})

-- of a column of a slice that holds the columns
pub test-rects-of : (columns cs : List Column) (c : ℕ) (column : Column) (plain : Bool) (t : Test) (spans : List Span) (rects : List Rect) → cs ≡ columns → c < length columns → column ≡ slice_index_or cs c column
    → AreSpans column (says_test plain t) (test_width plain t) (places_of t) spans → rects ≡ map (rect_with cs c) spans → AreRects columns plain (Tests c t) rects
test-rects-of columns cs c column plain t spans rects same l at are is =
    subst (λ (xs : List Column). AreRects xs plain (Tests c t) rects) same
    (test-rects cs c column plain t spans rects (let n = ap length same in omega (arith, n, l)) is (subst (λ (x : Column). AreSpans x (says_test plain t) (test_width plain t) (places_of t) spans) at are))

-- ---- the loop that makes the rect

full-at : (columns : List Column) (i : ℕ) (d : Span) → i < length columns → slice_index_or (full_rect columns) i d ≡ Full
full-at [] i d l = absurd (omega arith)
full-at (column ∷ columns) zero d l = refl
full-at (column ∷ columns) (suc i) d l = full-at columns i d (omega arith)

span-at : (columns : List Column) (c i : ℕ) (s d : Span) → i < length columns → slice_index_or (rect_with columns c s) i d ≡ (if i == c then s else Full)
span-at [] c i s d l = absurd (omega arith)
span-at (column ∷ columns) zero zero s d l = refl
span-at (column ∷ columns) zero (suc i) s d l = full-at columns i d (omega arith) ∙ grind (arith, nat_tests)
span-at (column ∷ columns) (suc c) zero s d l = grind (arith, nat_tests)
span-at (column ∷ columns) (suc c) (suc i) s d l = span-at columns c i s d (omega arith) ∙ grind (arith, nat_tests)

full-length : (columns : List Column) → length (full_rect columns) ≡ length columns
full-length [] = refl
full-length (column ∷ columns) = let ih = full-length columns in omega (arith, ih)

with-length : (columns : List Column) (c : ℕ) (s : Span) → length (rect_with columns c s) ≡ length columns
with-length columns c s = let f = full-length columns in let g = length-set (full_rect columns) c s in omega (arith, f, g)

pub rect-step : (columns : List Column) (c i : ℕ) (s own : Span) (rect new : Rect) → i < length columns → rect ≡ take i (rect_with columns c s) → own ≡ (if i == c then s else Full) → new ≡ rect ++ own ∷ []
    → new ≡ take (i + 1) (rect_with columns c s)
rect-step columns c i s own rect new l so_far is pushed =
    let inside : i < length (rect_with columns c s) = let n = with-length columns c s in omega (arith, n) in
    pushed ∙ (ap (λ (r : Rect). r ++ own ∷ []) so_far ∙ (ap (λ (x : Span). take i (rect_with columns c s) ++ x ∷ []) (is ∙ sym (span-at columns c i s Full l)) ∙ sym (take_more (rect_with columns c s) i Full inside)))

pub rect-end : (columns : List Column) (c i : ℕ) (s : Span) (rect : Rect) → length columns ≤ i → rect ≡ take i (rect_with columns c s) → rect ≡ rect_with columns c s
rect-end columns c i s rect l is = let n = with-length columns c s in is ∙ take_all i (rect_with columns c s) (omega (arith, n))
