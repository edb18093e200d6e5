-- The regions of numbers, while one after another is changed.
use Rattle.std.proofs.Common.{◌≡◌, ℕ, zero, suc, ◌+◌, ◌<◌, List, [], ◌∷◌, ◌++◌, length, take, drop, map, refl, sym, ap, subst, ◌∙◌, ⊎_elim, ◌⊎◌, inl, inr, arith}
use Rattle.std.specs.Prelude.{Some, slice_get, slice_set}
use Rattle.std.proofs.Math.ListN.{get_or}
use Rattle.std.proofs.lemmas.List.{at_drop_more}
use Rattle.std.specs.List.{All}
use Rattle.std.proofs.lemmas.Option.{get_or_from_slice_get, slice_get_read}

some-same : {X : Type 0} (x y : X) → Some x ≡ Some y → x ≡ y
some-same x y is = cc

-- an item of a list with one changed is that one, or was there
pub set-cases : {X : Type 0} (xs : List X) (i : ℕ) (y : X) (n : ℕ) (x : X) → slice_get (slice_set xs i y) n ≡ Some x → ((n ≡ i) × (x ≡ y)) ⊎ (slice_get xs n ≡ Some x)
set-cases [] i y n x is = inr is
set-cases (z ∷ xs) zero y zero x is = inl (refl, sym (some-same y x is))
set-cases (z ∷ xs) zero y (suc n) x is = inr is
set-cases (z ∷ xs) (suc i) y zero x is = inr is
set-cases (z ∷ xs) (suc i) y (suc n) x is = ⊎_elim (λ h. inl (ap suc h.0, h.1)) (λ h. inr h) (set-cases xs i y n x is)

-- the next item is not changed yet
pub next-unchanged : {X : Type 0} (f : X → X) (xs : List X) (i : ℕ) → slice_get (map f (take i xs) ++ drop i xs) i ≡ slice_get xs i
next-unchanged f [] zero = refl
next-unchanged f [] (suc i) = refl
next-unchanged f (x ∷ xs) zero = refl
next-unchanged f (x ∷ xs) (suc i) = next-unchanged f xs i

pub there-below : {X : Type 0} (xs : List X) (n : ℕ) (x : X) → slice_get xs n ≡ Some x → n < length xs
there-below [] n x is = absurd (cc)
there-below (z ∷ xs) zero x is = omega arith
there-below (z ∷ xs) (suc n) x is = let ih = there-below xs n x is in omega (arith, ih)

pub All-at : {X : Type 0} (P : X → Type 0) (xs : List X) (n : ℕ) (x : X) → slice_get xs n ≡ Some x → All P xs → P x
All-at P xs n x is all = subst P (get_or_from_slice_get xs n x x is) (all n x (there-below xs n x is))

-- an item put where it stands
pub set-same : {X : Type 0} (xs : List X) (i : ℕ) (x : X) → slice_get xs i ≡ Some x → slice_set xs i x ≡ xs
set-same [] i x is = refl
set-same (z ∷ xs) zero x is = ap (λ y. y ∷ xs) (sym (some-same z x is))
set-same (z ∷ xs) (suc i) x is = ap (λ ys. z ∷ ys) (set-same xs i x is)

-- what is read of a list by another name for it
pub read-at : {X : Type 0} (items now : List X) (n : ℕ) (x : X) → items ≡ now → n < length now → x ≡ get_or items n x → slice_get now n ≡ Some x
read-at items now n x is below at = slice_get_read now (length now) n x refl below (subst (λ xs. x ≡ get_or xs n x) is at)

pub read-same : {X : Type 0} (items now : List X) (n : ℕ) (x y : X) → items ≡ now → x ≡ get_or items n x → slice_get now n ≡ Some y → x ≡ y
read-same items now n x y is at there = at ∙ ap (λ xs. get_or xs n x) is ∙ get_or_from_slice_get now n y x there

pub some-at : {X : Type 0} (xs : List X) (n : ℕ) → n < length xs → (x : X) × (slice_get xs n ≡ Some x)
some-at [] n below = absurd (omega (arith, below))
some-at (x ∷ xs) zero below = (x, refl)
some-at (x ∷ xs) (suc n) below = some-at xs n (omega (arith, below))

-- what is left of a list begins with the next item
pub next-left : {X : Type 0} (xs : List X) (n : ℕ) (x : X) → n < length xs → x ≡ get_or xs n x → drop n xs ≡ x ∷ drop (n + 1) xs
next-left xs n x below is = at_drop_more (λ ys. ys) xs n x below ∙ ap (λ y. y ∷ drop (n + 1) xs) (sym is)
