-- The ends of a list of values: between the values spans begin and end only there.
use Rattle.std.proofs.Common.{◌≡◌, ℕ, ◌+◌, ◌≤◌, true, false, List, [], ◌∷◌, ◌++◌, length, take, refl, sym, subst, arith, ◌∙◌, inl, inr}
use Rattle.std.specs.Prelude.{ℤ, pos, ◌+ℤ◌, int_lt, nat_lt, Bool, not, ◌&&◌, ◌||◌, ◌⊎◌, Option, Some, None, map, flat_map, if◌then◌else◌}
use Rattle.std.specs.List.{list_all, list_any, AllByRecursion}
use Rattle.std.proofs.lemmas.Int.{ints}
use Rattle.std.proofs.Math.Seq.{take-length}
use Rattle.std.proofs.lemmas.List.Folds.{list_all-append}
use Rattle.sr_cell.specs.declared.cell.Cell.{Cell}
use Rattle.sr_cell.specs.declared.cell.Cell.TheVariants.{Num, Str, Null as NullCell}
use Rattle.sr_cell.specs.declared.table.Kind.{Kind}
use Rattle.sr_cell.specs.declared.table.Kind.TheVariants.{Num as Numbers, Str as Texts}
use Rattle.sr_cell.specs.declared.table.Column.{Column}
use Rattle.sr_cell.specs.Cells.{cell_eq}
use Rattle.sr_cell.specs.Columns.{in_kind, in_column}
use Rattle.sr_cell.proofs.Order.{text_le-refl, cell_eq-sound, cell_eq-refl}
use Rattle.sr_box.specs.declared.span.Span.{Span}
use Rattle.sr_box.specs.declared.span.Span.TheVariants.{Full, Nums, Strs, Null}
use Rattle.sr_box.specs.Spans.{in_span, span_fits, fits_kind}
use Rattle.sr_box.specs.Corners.{text_cut, end_cut, null_cut}
use Rattle.sr_union.specs.Grid.{is_among, has_cut}
use Rattle.sr_union.proofs.Cuts.{is_among-append, nums-cut, strs-cut, cut-is}
use Rattle.sr_model.specs.Conditions.{OneOf}
use Rattle.sr_model.specs.Ends.{next_value, values_without, run_ends, test_ends, places_of}
use Rattle.sr_condition.specs.Ranges.{says_test, EndsAt, in_spans, AreSpans, AreApart}
use Rattle.sr_condition.proofs.Bounds.{next-above, text_cut-is}

-- each value and the next one
abbrev pub sides : List Cell → List Cell
sides vs = flat_map (λ v. v ∷ next_value v ∷ []) vs

among-is : (vs : List Cell) (v : Cell) → is_among vs v ≡ list_any (cell_eq v) vs
among-is [] v = refl
among-is (u ∷ vs) v = let ih = among-is vs v in grind (arith, ih)

sides-are : (vs : List Cell) (v : Cell) → is_among (sides vs) v ≡ (is_among vs v || is_among (map next_value vs) v)
sides-are [] v = refl
sides-are (u ∷ vs) v = let ih = sides-are vs v in grind (arith, ih)

without-is : (vs ws : List Cell) (v : Cell) → is_among (values_without vs ws) v ≡ (is_among vs v && not (list_any (cell_eq v) ws))
without-is [] ws v = refl
without-is (u ∷ vs) ws v = go (list_any (cell_eq u) ws) refl (cell_eq u v) refl (without-is vs ws v)
  where
    same : (b : Bool) → list_any (cell_eq u) ws ≡ b → cell_eq u v ≡ true → list_any (cell_eq v) ws ≡ b
    same b e k = subst (λ w. list_any (cell_eq w) ws ≡ b) (cell_eq-sound u v k) e

    go : (b : Bool) → list_any (cell_eq u) ws ≡ b → (d : Bool) → cell_eq u v ≡ d → is_among (values_without vs ws) v ≡ (is_among vs v && not (list_any (cell_eq v) ws))
        → is_among (if not b then u ∷ values_without vs ws else values_without vs ws) v ≡ ((d || is_among vs v) && not (list_any (cell_eq v) ws))
    go true e true k ih = let x = same true e k in grind (arith, ih, x)
    go false e true k ih = let x = same false e k in grind (arith, k, x)
    go true e false k ih = ih
    go false e false k ih = grind (arith, k, ih)

-- a value of the list, or a next one, is an end unless it is both
end-of-run : (vs : List Cell) (v : Cell) → is_among (sides vs) v ≡ true → (is_among vs v ≡ true → is_among (map next_value vs) v ≡ true → ⊥) → is_among (test_ends (OneOf vs)) v ≡ true
end-of-run vs v h apart =
    go (is_among vs v) (is_among (map next_value vs) v) (sym (sides-are vs v) ∙ h) apart (without-is vs (map next_value vs) v) (without-is (map next_value vs) vs v)
    (among-is vs v) (among-is (map next_value vs) v) (is_among-append (values_without vs (map next_value vs)) (values_without (map next_value vs) vs) v)
  where
    go : (a b : Bool) → (a || b) ≡ true → (a ≡ true → b ≡ true → ⊥) → is_among (values_without vs (map next_value vs)) v ≡ (a && not (list_any (cell_eq v) (map next_value vs)))
        → is_among (values_without (map next_value vs) vs) v ≡ (b && not (list_any (cell_eq v) vs)) → a ≡ list_any (cell_eq v) vs → b ≡ list_any (cell_eq v) (map next_value vs)
        → is_among (run_ends vs (map next_value vs)) v ≡ (is_among (values_without vs (map next_value vs)) v || is_among (values_without (map next_value vs) vs) v)
        → is_among (run_ends vs (map next_value vs)) v ≡ true
    go true true h apart x y p q e = absurd (apart refl refl)
    go true false h apart x y p q e = grind (arith, x, q, e)
    go false true h apart x y p q e = grind (arith, y, p, e)
    go false false h apart x y p q e = absurd (grind arith)

-- a next value is next to a value of the list
next-of : (vs : List Cell) (v : Cell) → is_among (map next_value vs) v ≡ true → (u : Cell) × (list_any (cell_eq u) vs ≡ true) × (next_value u ≡ v)
next-of [] v h = absurd (grind arith)
next-of (u ∷ vs) v h = go (cell_eq (next_value u) v) refl h (next-of vs v)
  where
    later : (u : Cell) × (list_any (cell_eq u) vs ≡ true) × (next_value u ≡ v) → (w : Cell) × (list_any (cell_eq w) (u ∷ vs) ≡ true) × (next_value w ≡ v)
    later (w, i, e) = (w, grind (arith, i), e)

    go : (b : Bool) → cell_eq (next_value u) v ≡ b → (b || is_among (map next_value vs) v) ≡ true
        → (is_among (map next_value vs) v ≡ true → (w : Cell) × (list_any (cell_eq w) vs ≡ true) × (next_value w ≡ v))
        → (w : Cell) × (list_any (cell_eq w) (u ∷ vs) ≡ true) × (next_value w ≡ v)
    go true e k rest = let r = cell_eq-refl u in (u, grind (arith, r), cell_eq-sound (next_value u) v e)
    go false e k rest = later (rest k)

-- ---- a cut of a span among the values is its first value, or is next to its last

abbrev IsIn : Kind → ℤ → ℤ → Bool → Span → Cell → Type 0
IsIn k low high n s v = (in_span s v ≡ true) × (in_kind k low high n v ≡ true)

abbrev FollowsIn : Kind → ℤ → ℤ → Bool → Span → Cell → Type 0
FollowsIn k low high n s v = (u : Cell) → next_value u ≡ v → IsIn k low high n s u

same-number : (m n : ℤ) → m +ℤ pos 1 ≡ n +ℤ pos 1 → n ≡ m
same-number m n e = grind (arith, ints, e)

last-number : (low high : ℤ) (n : Bool) (lo hi : ℤ) → fits_kind Numbers low high n (Nums lo hi) ≡ true → IsIn Numbers low high n (Nums lo hi) (Num hi)
last-number low high n lo hi f = (grind (arith, ints), grind (arith, ints))

number-follows : (low high : ℤ) (n : Bool) (lo hi : ℤ) → fits_kind Numbers low high n (Nums lo hi) ≡ true → FollowsIn Numbers low high n (Nums lo hi) (Num (hi +ℤ pos 1))
number-follows low high n lo hi f (Num m) k =
    let e : m +ℤ pos 1 ≡ hi +ℤ pos 1 = cc in subst (λ x. IsIn Numbers low high n (Nums lo hi) (Num x)) (same-number m hi e) (last-number low high n lo hi f)
number-follows low high n lo hi f (Str s) k = absurd (cc)
number-follows low high n lo hi f NullCell k = absurd (cc)

number-cut : (low high : ℤ) (n : Bool) (lo hi : ℤ) (v : Cell) → fits_kind Numbers low high n (Nums lo hi) ≡ true → has_cut Numbers low high false (Nums lo hi) v ≡ true
    → IsIn Numbers low high n (Nums lo hi) v ⊎ FollowsIn Numbers low high n (Nums lo hi) v
number-cut low high n lo hi v f h = go (cell_eq (Num lo) v) refl (sym (nums-cut low high lo hi v) ∙ h)
  where
    first : IsIn Numbers low high n (Nums lo hi) (Num lo)
    first = (grind (arith, ints), grind (arith, ints))

    go : (b : Bool) → cell_eq (Num lo) v ≡ b → ((int_lt low lo && b) || (int_lt hi high && cell_eq (Num (hi +ℤ pos 1)) v)) ≡ true
        → IsIn Numbers low high n (Nums lo hi) v ⊎ FollowsIn Numbers low high n (Nums lo hi) v
    go true e k = inl (subst (IsIn Numbers low high n (Nums lo hi)) (cell_eq-sound (Num lo) v e) first)
    go false e k = inr (subst (FollowsIn Numbers low high n (Nums lo hi)) (cell_eq-sound (Num (hi +ℤ pos 1)) v (grind arith)) (number-follows low high n lo hi f))

text-follows : (low high : ℤ) (n : Bool) (lo hi : List ℕ) → fits_kind Texts low high n (Strs lo (Some hi)) ≡ true → FollowsIn Texts low high n (Strs lo (Some hi)) (Str hi)
text-follows low high n lo hi f (Num m) k = absurd (cc)
text-follows low high n lo hi f NullCell k = absurd (cc)
text-follows low high n lo hi f (Str w) k =
    let e : w ++ 0 ∷ [] ≡ hi = cc in
    let g = subst (λ x. fits_kind Texts low high n (Strs lo (Some x)) ≡ true) (sym e) f in
    let a = next-above w lo in let b = next-above w w in let r = text_le-refl w in let bytes = list_all-append (λ x. nat_lt x 256) w (0 ∷ []) in
    (subst (λ x. in_span (Strs lo (Some x)) (Str w) ≡ true) e (grind (arith, a, b, r, g)), grind (arith, g, bytes))

text-end : (low high : ℤ) (n : Bool) (lo : List ℕ) (hi : Option (List ℕ)) (v : Cell) → fits_kind Texts low high n (Strs lo hi) ≡ true → is_among (end_cut hi) v ≡ true → FollowsIn Texts low high n (Strs lo hi) v
text-end low high n lo None v f h = absurd (grind arith)
text-end low high n lo (Some hi) v f h = subst (FollowsIn Texts low high n (Strs lo (Some hi))) (cell_eq-sound (Str hi) v (grind arith)) (text-follows low high n lo hi f)

text-cut : (low high : ℤ) (n : Bool) (lo : List ℕ) (hi : Option (List ℕ)) (v : Cell) → fits_kind Texts low high n (Strs lo hi) ≡ true → has_cut Texts low high false (Strs lo hi) v ≡ true
    → IsIn Texts low high n (Strs lo hi) v ⊎ FollowsIn Texts low high n (Strs lo hi) v
text-cut low high n lo hi v f h = go (is_among (text_cut lo) v) refl (sym (strs-cut low high lo hi v) ∙ h)
  where
    first : IsIn Texts low high n (Strs lo hi) (Str lo)
    first = let r = text_le-refl lo in (grind (arith, r), grind arith)

    go : (b : Bool) → is_among (text_cut lo) v ≡ b → (b || is_among (end_cut hi) v) ≡ true → IsIn Texts low high n (Strs lo hi) v ⊎ FollowsIn Texts low high n (Strs lo hi) v
    go true e k = inl (subst (IsIn Texts low high n (Strs lo hi)) (cell_eq-sound (Str lo) v (text_cut-is lo v e)) first)
    go false e k = inr (text-end low high n lo hi v f k)

cut-side : (k : Kind) (low high : ℤ) (n : Bool) (s : Span) (v : Cell) → fits_kind k low high n s ≡ true → has_cut k low high false s v ≡ true → IsIn k low high n s v ⊎ FollowsIn k low high n s v
cut-side Numbers low high n Full v f h = absurd (grind arith)
cut-side Texts low high n Full v f h = absurd (grind arith)
cut-side Numbers low high n Null v f h = absurd (grind arith)
cut-side Texts low high n Null v f h = absurd (grind arith)
cut-side Numbers low high n (Nums lo hi) v f h = number-cut low high n lo hi v f h
cut-side Texts low high n (Nums lo hi) v f h = absurd (grind arith)
cut-side Numbers low high n (Strs lo hi) v f h = absurd (grind arith)
cut-side Texts low high n (Strs lo hi) v f h = text-cut low high n lo hi v f h

no-null : (n : Bool) (v : Cell) → cell_eq NullCell v ≡ false → is_among (null_cut n) v ≡ false
no-null true v h = grind (arith, h)
no-null false v h = refl

-- the place before Null aside, the cuts are those of a column that has no Null
value-cut : (k : Kind) (low high : ℤ) (n : Bool) (s : Span) (v : Cell) → cell_eq NullCell v ≡ false → has_cut k low high n s v ≡ true → has_cut k low high false s v ≡ true
value-cut k low high n s v h x = let c = cut-is k low high n s v in let e = no-null n v h in grind (arith, c, e, x)

-- ---- spans between the values

-- where a span has no value of the list, none of its cuts is a value and next to a value
between-end : (column : Column) (vs : List Cell) (s : Span) → span_fits column s ≡ true → ((v : Cell) → in_column column v ≡ true → in_span s v ≡ true → list_any (cell_eq v) vs ≡ false)
    → EndsAt column (NullCell ∷ sides vs) s → EndsAt column (places_of (OneOf vs)) s
between-end column vs s f none at v h = go (cell_eq NullCell v) refl (at v h)
  where
    taken : (u : Cell) → list_any (cell_eq u) vs ≡ true → IsIn column.kind column.lo column.hi column.nullable s u → ⊥
    taken u i w = let n = none u w.1 w.0 in absurd (grind (arith, n, i))

    both : IsIn column.kind column.lo column.hi column.nullable s v ⊎ FollowsIn column.kind column.lo column.hi column.nullable s v → is_among vs v ≡ true → is_among (map next_value vs) v ≡ true → ⊥
    both (inl w) a b = taken v (sym (among-is vs v) ∙ a) w
    both (inr w) a b = let n = next-of vs v b in taken n.0 n.1 (w n.0 n.2)

    go : (x : Bool) → cell_eq NullCell v ≡ x → (x || is_among (sides vs) v) ≡ true → (x || is_among (test_ends (OneOf vs)) v) ≡ true
    go true e k = refl
    go false e k = end-of-run vs v k
        (both (cut-side column.kind column.lo column.hi column.nullable s v f (value-cut column.kind column.lo column.hi column.nullable s v e h)))

between-ends : (column : Column) (vs : List Cell) (spans : List Span) → list_all (span_fits column) spans ≡ true
    → ((v : Cell) → in_column column v ≡ true → in_spans spans v ≡ true → list_any (cell_eq v) vs ≡ false) → AllByRecursion (EndsAt column (NullCell ∷ sides vs)) spans
    → AllByRecursion (EndsAt column (places_of (OneOf vs))) spans
between-ends column vs [] f none at = tt
between-ends column vs (s ∷ spans) f none at =
    (between-end column vs s (grind arith) (λ v i h. none v i (grind (arith, h))) at.0, between-ends column vs spans (grind arith) (λ v i h. none v i (grind (arith, h))) at.1)

says-none : (vs : List Cell) (v : Cell) → says_test false (OneOf vs) v ≡ true → list_any (cell_eq v) vs ≡ false
says-none vs (Num m) h = grind (arith, h)
says-none vs (Str s) h = grind (arith, h)
says-none vs NullCell h = absurd (cc)

pub between-spans : (column : Column) (vs : List Cell) (i : ℕ) (spans : List Span) → i ≤ length vs → length vs ≤ i
    → AreApart column (says_test false (OneOf (take i vs))) (i + 1) (NullCell ∷ sides (take i vs)) spans → AreSpans column (says_test false (OneOf vs)) (length vs + 1) (places_of (OneOf vs)) spans
between-spans column vs i spans most least before = record {
  fits = apart.are.fits;
  points = apart.are.points;
  few = apart.are.few;
  ends = between-ends column vs spans apart.are.fits (λ v i h. says-none vs v (sym (apart.are.points v i) ∙ h)) apart.are.ends;
}
  where
    apart : AreApart column (says_test false (OneOf vs)) (length vs + 1) (NullCell ∷ sides vs) spans
    apart = subst (λ (xs : List Cell). AreApart column (says_test false (OneOf xs)) (length vs + 1) (NullCell ∷ sides xs) spans) (take-length vs)
        (subst (λ n. AreApart column (says_test false (OneOf (take n vs))) (n + 1) (NullCell ∷ sides (take n vs)) spans) (omega (arith, most, least)) before)
