-- Behind the end of one of two centres there is no distance left.
use Rattle.std.proofs.Common.{◌≡◌, ℕ, ◌≤◌, ◌∙◌, List, [], ◌∷◌, length, drop, refl, ap, inl, inr, arith}
use Rattle.std.specs.Prelude.{ℤ, min}
use Rattle.std.proofs.lemmas.Bool.{cases_lt}
use Rattle.std.proofs.lemmas.List.{drop_all}
use Rattle.sr_policy.specs.Order.{distance}

distance-none : (xs : List ℤ) → distance xs [] ≡ 0
distance-none [] = refl
distance-none (x ∷ xs) = refl

pub distance_behind : (xs ys : List ℤ) (i : ℕ) → min (length xs) (length ys) ≤ i → distance (drop i xs) (drop i ys) ≡ 0
distance_behind xs ys i h = elim (cases_lt i (length xs)) [
  | inl inside ↦ ap (distance (drop i xs)) (drop_all i ys (omega arith)) ∙ distance-none (drop i xs)
  | inr behind ↦ ap (λ rest. distance rest (drop i ys)) (drop_all i xs behind)
]
