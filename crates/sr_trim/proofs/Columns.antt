-- The columns that rects constrain, and those that are essential to their points.
use Rattle.std.proofs.Common.{◌≡◌, ℕ, ◌+◌, ◌/◌, ◌^◌, ◌<◌, ◌≤◌, ◌⊎◌, ◌↔◌, zero, suc, inl, inr, Bool, true, false, List, [], ◌∷◌, length, drop, slice_index_or, refl, arith, ◌∙◌, sym, ap, subst}
use Rattle.std.specs.Prelude.{◌||◌, ◌==◌, bit_or, max, nat_le, slice_set}
use Rattle.std.specs.List.{list_all, AllByRecursion}
use Rattle.std.proofs.Math.Nat.{mod-lt}
use Rattle.std.proofs.lemmas.List.{at_drop_more}
use Rattle.std.specs.Int.{bit_at}
use Rattle.std.proofs.lemmas.Nat.Bits.{bit_at_or}
use Rattle.std.proofs.lemmas.Bool.Decides.{nat_tests}
use Rattle.sr_cell.specs.declared.cell.Cell.{Cell}
use Rattle.sr_cell.specs.declared.table.Column.{Column}
use Rattle.sr_cell.specs.Attrs.{has_column}
use Rattle.sr_cell.specs.Cells.{Row}
use Rattle.sr_cell.specs.Columns.{is_point}
use Rattle.sr_box.specs.declared.span.Span.TheVariants.{Full, Nums, Strs, Null}
use Rattle.sr_box.specs.Points.{Rect, in_rect, in_any, constrains, constrained, constrains_only, IsEssential}
use Rattle.sr_union.specs.Free.{span_at}
use Rattle.sr_union.proofs.Free.{constrained-is}
use Rattle.sr_trim.specs.Left.{is_constrained}

bit_max : (a b : ℕ) → a < 2 → b < 2 → (max a b == 1) ≡ ((a == 1) || (b == 1))
bit_max zero zero h k = refl
bit_max zero (suc zero) h k = refl
bit_max (suc zero) zero h k = refl
bit_max (suc zero) (suc zero) h k = refl
bit_max (suc (suc a)) b h k = absurd (omega (arith, h))
bit_max zero (suc (suc b)) h k = absurd (omega (arith, k))
bit_max (suc zero) (suc (suc b)) h k = absurd (omega (arith, k))

pub or_column : (a b c : ℕ) → has_column (bit_or a b) c ≡ (has_column a c || has_column b c)
or_column a b c = ap (λ n. n == 1) (bit_at_or a b c) ∙ bit_max (bit_at a c) (bit_at b c) (mod-lt (a / 2 ^ c) (omega arith)) (mod-lt (b / 2 ^ c) (omega arith))

-- one rect more, whose columns are shipped too
either_more : (next attrs cols all rest : Bool) → next ≡ (attrs || cols) → all ≡ (cols || rest) → (next || rest) ≡ (attrs || all)
either_more next true cols all rest x y = rw x refl
either_more next false true all rest x y = rw x (sym y)
either_more next false false all rest x y = rw x (sym y)

pub shipped_more : (attrs next cols i k : ℕ) (rects : List Rect) (r : Rect) → i < length rects → r ≡ slice_index_or rects i r → cols ≡ constrained r → has_column next k ≡ (has_column attrs k || has_column cols k)
    → (has_column next k || is_constrained k (drop (i + 1) rects)) ≡ (has_column attrs k || is_constrained k (drop i rects))
shipped_more attrs next cols i k rects r l at is more =
    let now = at_drop_more (is_constrained k) rects i r l in
    let same : has_column (constrained (slice_index_or rects i r)) k ≡ has_column cols k = ap (λ q. has_column (constrained q) k) (sym at) ∙ ap (λ n. has_column n k) (sym is) in
    either_more (has_column next k) (has_column attrs k) (has_column cols k) (is_constrained k (drop i rects)) (is_constrained k (drop (i + 1) rects)) more
    (now ∙ ap (λ b. b || is_constrained k (drop (i + 1) rects)) same)

pub shipped_all : (attrs need i k : ℕ) (items rects : List Rect) → length items ≤ i → items ≡ rects → (has_column attrs k || is_constrained k (drop i items)) ≡ (has_column need k || is_constrained k items)
    → has_column attrs k ≡ (has_column need k || is_constrained k rects)
shipped_all attrs need i k items rects l e inv =
    or_false (has_column attrs k) ∙ (ap (λ xs. has_column attrs k || is_constrained k xs) (sym (drop_end i items l)) ∙ (inv ∙ ap (λ xs. has_column need k || is_constrained k xs) e))
  where
    or_false : (a : Bool) → a ≡ (a || false)
    or_false true = refl
    or_false false = refl

    drop_end : (i : ℕ) (xs : List Rect) → length xs ≤ i → drop i xs ≡ []
    drop_end zero [] h = refl
    drop_end (suc i) [] h = refl
    drop_end zero (x ∷ xs) h = absurd (omega (arith, h))
    drop_end (suc i) (x ∷ xs) h = drop_end i xs (omega (arith, h))

pub narrow_at : (rects : List Rect) (i : ℕ) (d : Rect) → list_all (λ r. nat_le (length r) 16) rects ≡ true → i < length rects → length (slice_index_or rects i d) ≤ 16
narrow_at [] i d h l = absurd (omega (arith, l))
narrow_at (r ∷ rects) zero d h l = grind (arith, nat_tests)
narrow_at (r ∷ rects) (suc i) d h l = narrow_at rects i d (grind arith) (omega (arith, l))

-- a rect does not look at a column that it does not constrain
one_same : (r : Rect) (c : ℕ) (p : Row) (v : Cell) → constrains (span_at c r) ≡ false → in_rect r (slice_set p c v) ≡ in_rect r p
one_same r c [] v h = refl
one_same [] zero (w ∷ p) v h = refl
one_same [] (suc c) (w ∷ p) v h = refl
one_same (Full ∷ r) zero (w ∷ p) v h = refl
one_same (Nums lo hi ∷ r) zero (w ∷ p) v h = absurd (grind arith)
one_same (Strs lo hi ∷ r) zero (w ∷ p) v h = absurd (grind arith)
one_same (Null ∷ r) zero (w ∷ p) v h = absurd (grind arith)
one_same (s ∷ r) (suc c) (w ∷ p) v h = let ih = one_same r c p v h in grind (arith, ih)

any_same : (rects : List Rect) (c : ℕ) (p : Row) (v : Cell) → is_constrained c rects ≡ false → in_any rects (slice_set p c v) ≡ in_any rects p
any_same [] c p v h = refl
any_same (r ∷ rects) c p v h =
    let free : constrains (span_at c r) ≡ false = sym (constrained-is r c) ∙ grind arith in
    let one = one_same r c p v free in let ih = any_same rects c p v (grind arith) in grind (arith, one, ih)

-- a column that no rect constrains is not essential to their points
pub not_essential : (cs : List Column) (a : Row → Bool) (rects : List Rect) (c : ℕ) → ((p : Row) → is_point cs p ≡ true → in_any rects p ≡ a p) → is_constrained c rects ≡ false → IsEssential cs a c → ⊥
not_essential cs a rects c same free e =
    let inside = same e.inside e.is_inside.0 in let outside = same (slice_set e.inside c e.other) e.is_outside.0 in let one = any_same rects c e.inside e.other free in
    let yes = e.is_inside.1 in let no = e.is_outside.1 in absurd (grind (arith, inside, outside, one, yes, no))

-- a constrained column is needed or essential
pub constrained_needs : (cs : List Column) (need : ℕ) (a : Row → Bool) (rects : List Rect) (c : ℕ)
    → AllByRecursion (λ r. (k : ℕ) → has_column (constrained r) k ≡ true → (has_column need k ≡ true) ⊎ IsEssential cs a k) rects
    → is_constrained c rects ≡ true → (has_column need c ≡ true) ⊎ IsEssential cs a c
constrained_needs cs need a [] c h e = absurd (grind arith)
constrained_needs cs need a (r ∷ rects) c h e = go (has_column (constrained r) c) refl e (constrained_needs cs need a rects c h.1)
  where
    go : (b : Bool) → has_column (constrained r) c ≡ b → (b || is_constrained c rects) ≡ true → (is_constrained c rects ≡ true → (has_column need c ≡ true) ⊎ IsEssential cs a c)
        → (has_column need c ≡ true) ⊎ IsEssential cs a c
    go true is k ih = h.0 c is
    go false is k ih = ih k

pub shipped_just : (cs : List Column) (need attrs : ℕ) (a : Row → Bool) (rects : List Rect)
    → ((p : Row) → is_point cs p ≡ true → in_any rects p ≡ a p)
    → AllByRecursion (λ r. (k : ℕ) → has_column (constrained r) k ≡ true → (has_column need k ≡ true) ⊎ IsEssential cs a k) rects
    → ((c : ℕ) → has_column attrs c ≡ (has_column need c || is_constrained c rects))
    → (c : ℕ) → (has_column attrs c ≡ true) ↔ ((has_column need c ≡ true) ⊎ IsEssential cs a c)
shipped_just cs need attrs a rects same h is c = ((λ e. needed (has_column need c) refl (sym (is c) ∙ e)), λ e. is c ∙ back e)
  where
    needed : (b : Bool) → has_column need c ≡ b → (b || is_constrained c rects) ≡ true → (has_column need c ≡ true) ⊎ IsEssential cs a c
    needed true x k = inl x
    needed false x k = constrained_needs cs need a rects c h k

    essential : (b : Bool) → is_constrained c rects ≡ b → IsEssential cs a c → is_constrained c rects ≡ true
    essential true x e = x
    essential false x e = absurd (not_essential cs a rects c same x e)

    back : (has_column need c ≡ true) ⊎ IsEssential cs a c → (has_column need c || is_constrained c rects) ≡ true
    back (inl e) = grind (arith, e)
    back (inr e) = let k = essential (is_constrained c rects) refl e in grind (arith, k)

-- rects constrain only the columns of a set that has each column that they constrain
only_one : (attrs n : ℕ) (r : Rect) → ((k : ℕ) → constrains (span_at k r) ≡ true → has_column attrs (n + k) ≡ true) → constrains_only attrs n r ≡ true
only_one attrs n [] h = refl
only_one attrs n (Full ∷ r) h = only_one attrs (n + 1) r (λ k e. subst (λ m. has_column attrs m ≡ true) (omega arith) (h (suc k) e))
only_one attrs n (Nums lo hi ∷ r) h =
    let first : has_column attrs n ≡ true = subst (λ m. has_column attrs m ≡ true) (omega arith) (h 0 refl) in
    let ih = only_one attrs (n + 1) r (λ k e. subst (λ m. has_column attrs m ≡ true) (omega arith) (h (suc k) e)) in grind (arith, first, ih)
only_one attrs n (Strs lo hi ∷ r) h =
    let first : has_column attrs n ≡ true = subst (λ m. has_column attrs m ≡ true) (omega arith) (h 0 refl) in
    let ih = only_one attrs (n + 1) r (λ k e. subst (λ m. has_column attrs m ≡ true) (omega arith) (h (suc k) e)) in grind (arith, first, ih)
only_one attrs n (Null ∷ r) h =
    let first : has_column attrs n ≡ true = subst (λ m. has_column attrs m ≡ true) (omega arith) (h 0 refl) in
    let ih = only_one attrs (n + 1) r (λ k e. subst (λ m. has_column attrs m ≡ true) (omega arith) (h (suc k) e)) in grind (arith, first, ih)

pub only_all : (attrs : ℕ) (rects : List Rect) → ((c : ℕ) → is_constrained c rects ≡ true → has_column attrs c ≡ true) → list_all (constrains_only attrs 0) rects ≡ true
only_all attrs [] h = refl
only_all attrs (r ∷ rects) h =
    let one = only_one attrs 0 r (λ k e. let x = constrained-is r k ∙ e in subst (λ m. has_column attrs m ≡ true) (omega arith) (h k (grind (arith, x)))) in
    let ih = only_all attrs rects (λ c e. h c (grind (arith, e))) in grind (arith, one, ih)

pub shipped_bound : (need attrs : ℕ) (rects : List Rect) → ((c : ℕ) → has_column attrs c ≡ (has_column need c || is_constrained c rects)) → list_all (constrains_only attrs 0) rects ≡ true
shipped_bound need attrs rects is = only_all attrs rects (λ c e. is c ∙ either (has_column need c) (is_constrained c rects) e)
  where
    either : (a b : Bool) → b ≡ true → (a || b) ≡ true
    either true b e = refl
    either false b e = e
