-- Sums over a list in which one element changes.
use Rattle.std.proofs.Common.{◌≡◌, ℕ, zero, suc, ◌+◌, ◌*◌, ◌≤◌, List, [], ◌∷◌, length, refl, ap, subst, arith, Some}
use Rattle.std.specs.Prelude.{slice_get, slice_set, sum_by}
use Rattle.std.proofs.lemmas.List.Recursion.{is_sum_by}

abbrev total : {X : Type 0} → (X → ℕ) → List X → ℕ
total {X} f [] = 0
total {X} f (x ∷ xs) = f x + total f xs

total-is : {X : Type 0} (f : X → ℕ) (xs : List X) → total f xs ≡ sum_by f xs
total-is {X} f xs = is_sum_by (total f) f refl (λ _ _. refl) xs

total-set : {X : Type 0} (f : X → ℕ) (xs : List X) (i : ℕ) (old new : X) → slice_get xs i ≡ Some old → total f (slice_set xs i new) + f old ≡ total f xs + f new
total-set {X} f [] i old new is = absurd (cc)
total-set {X} f (x ∷ xs) zero old new is = let same : x ≡ old = cc in let e : f x ≡ f old = ap f same in omega (arith, e)
total-set {X} f (x ∷ xs) (suc i) old new is = omega (arith, total-set f xs i old new is)

total-within : {X : Type 0} (f : X → ℕ) (xs : List X) (i : ℕ) (x : X) → slice_get xs i ≡ Some x → f x ≤ total f xs
total-within {X} f [] i x is = absurd (cc)
total-within {X} f (y ∷ xs) zero x is = let same : y ≡ x = cc in let e : f y ≡ f x = ap f same in omega (arith, e)
total-within {X} f (y ∷ xs) (suc i) x is = omega (arith, total-within f xs i x is)

total-below : {X : Type 0} (f g : X → ℕ) (xs : List X) → ((i : ℕ) (x : X) → slice_get xs i ≡ Some x → f x ≤ g x + 3) → total f xs ≤ total g xs + 3 * length xs
total-below {X} f g [] each = omega arith
total-below {X} f g (x ∷ xs) each = omega (arith, each 0 x refl, total-below f g xs (λ i y is. each (suc i) y is))

total-under : {X : Type 0} (f g : X → ℕ) (xs : List X) → ((x : X) → f x ≤ g x) → total f xs ≤ total g xs
total-under {X} f g [] each = omega arith
total-under {X} f g (x ∷ xs) each = omega (arith, each x, total-under f g xs each)

total-ones : {X : Type 0} (f : X → ℕ) (xs : List X) → ((i : ℕ) (x : X) → slice_get xs i ≡ Some x → f x ≡ 1) → total f xs ≡ length xs
total-ones {X} f [] each = refl
total-ones {X} f (x ∷ xs) each = omega (arith, each 0 x refl, total-ones f xs (λ i y is. each (suc i) y is))

pub sum-set : {X : Type 0} (f : X → ℕ) (xs : List X) (i : ℕ) (old new : X) → slice_get xs i ≡ Some old → sum_by f (slice_set xs i new) + f old ≡ sum_by f xs + f new
sum-set {X} f xs i old new is =
    subst (λ n. n + f old ≡ sum_by f xs + f new) (total-is f (slice_set xs i new))
    (subst (λ n. total f (slice_set xs i new) + f old ≡ n + f new) (total-is f xs) (total-set f xs i old new is))

pub sum-within : {X : Type 0} (f : X → ℕ) (xs : List X) (i : ℕ) (x : X) → slice_get xs i ≡ Some x → f x ≤ sum_by f xs
sum-within {X} f xs i x is = subst (λ n. f x ≤ n) (total-is f xs) (total-within f xs i x is)

-- what is more by at most 3 at each place
pub sum-below : {X : Type 0} (f g : X → ℕ) (xs : List X) → ((i : ℕ) (x : X) → slice_get xs i ≡ Some x → f x ≤ g x + 3) → sum_by f xs ≤ sum_by g xs + 3 * length xs
sum-below {X} f g xs each = subst (λ n. n ≤ sum_by g xs + 3 * length xs) (total-is f xs) (subst (λ n. total f xs ≤ n + 3 * length xs) (total-is g xs) (total-below f g xs each))

pub sum-under : {X : Type 0} (f g : X → ℕ) (xs : List X) → ((x : X) → f x ≤ g x) → sum_by f xs ≤ sum_by g xs
sum-under {X} f g xs each = subst (λ n. n ≤ sum_by g xs) (total-is f xs) (subst (λ n. total f xs ≤ n) (total-is g xs) (total-under f g xs each))

pub sum-ones : {X : Type 0} (f : X → ℕ) (xs : List X) → ((i : ℕ) (x : X) → slice_get xs i ≡ Some x → f x ≡ 1) → sum_by f xs ≡ length xs
sum-ones {X} f xs each = subst (λ n. n ≡ length xs) (total-is f xs) (total-ones f xs each)
