-- Sums over lists.
use Rattle.std.proofs.Common.{◌≡◌, ℕ, ◌+◌, true, false, List, [], ◌∷◌, refl, ap, ◌∙◌, arith, eqb-true}
use Rattle.std.specs.Prelude.{Bool, ◌||◌, ◌==◌, if◌then◌else◌, sum_by}
use Rattle.std.specs.List.{list_any}
use Rattle.std.proofs.lemmas.List.Sums.{sum_by-cons}
use Rattle.sr_history.specs.Kept.{each_once}

-- the sum, front to back
abbrev pub total : {X : Type 0} → (X → ℕ) → List X → ℕ
total f [] = 0
total f (x ∷ xs) = f x + total f xs

module _ {X : Type 0} where
  pub total_is : (f : X → ℕ) (xs : List X) → sum_by f xs ≡ total f xs
  total_is f [] = refl
  total_is f (x ∷ xs) = sum_by-cons f x xs ∙ ap (λ n. f x + n) (total_is f xs)

  pub total_same : (f g : X → ℕ) (xs : List X) → ((x : X) → f x ≡ g x) → total f xs ≡ total g xs
  total_same f g [] h = refl
  total_same f g (x ∷ xs) h = let ih = total_same f g xs h in let e = h x in omega (arith, ih, e)

  pub total_none : (f : X → ℕ) (xs : List X) → ((x : X) → f x ≡ 0) → total f xs ≡ 0
  total_none f [] h = refl
  total_none f (x ∷ xs) h = let ih = total_none f xs h in let e = h x in omega (arith, ih, e)

  pub total_plus : (f g : X → ℕ) (xs : List X) → total (λ x. f x + g x) xs ≡ total f xs + total g xs
  total_plus f g [] = refl
  total_plus f g (x ∷ xs) = let ih = total_plus f g xs in omega (arith, ih)

-- ---- numbers that stand in a list once

-- of the numbers of a list, each once, one alone is that one
pub total_once : (x n : ℕ) (xs : List ℕ) → total (λ y. if x == y then n else 0) (each_once xs) ≡ (if list_any (λ y. x == y) xs then n else 0)
total_once x n [] = refl
total_once x n (z ∷ zs) = go (list_any (λ y. z == y) zs) refl (x == z) refl (total_once x n zs)
  where
    go : (b : Bool) → list_any (λ y. z == y) zs ≡ b → (e : Bool) → (x == z) ≡ e → total (λ y. if x == y then n else 0) (each_once zs) ≡ (if list_any (λ y. x == y) zs then n else 0)
        → total (λ y. if x == y then n else 0) (if b then each_once zs else z ∷ each_once zs) ≡ (if e || list_any (λ y. x == y) zs then n else 0)
    go true eb true ee ih = ih ∙ ap (λ c. if c then n else 0) (ap (λ w. list_any (λ y. w == y) zs) (eqb-true x z ee) ∙ eb)
    go true eb false ee ih = ih
    go false eb true ee ih =
        let none : list_any (λ y. x == y) zs ≡ false = ap (λ w. list_any (λ y. w == y) zs) (eqb-true x z ee) ∙ eb in
        let zero : total (λ y. if x == y then n else 0) (each_once zs) ≡ 0 = ih ∙ ap (λ c. if c then n else 0) none in
        let first : (if x == z then n else 0) ≡ n = ap (λ c. if c then n else 0) ee in
        omega (arith, zero, first)
    go false eb false ee ih =
        let first : (if x == z then n else 0) ≡ 0 = ap (λ c. if c then n else 0) ee in
        let rest : total (λ y. if x == y then n else 0) (each_once zs) ≡ (if list_any (λ y. x == y) zs then n else 0) = ih in
        omega (arith, first, rest)
