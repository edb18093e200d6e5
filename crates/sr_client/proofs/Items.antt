-- The items of a list, as loops and indices read them.
use Rattle.std.proofs.Common.{◌≡◌, ℕ, ◌+◌, ◌<◌, ◌≤◌, zero, suc, List, [], ◌∷◌, ◌++◌, length, map, refl, sym, ◌∙◌, ap, arith, get_or, take}
use Rattle.std.proofs.lemmas.List.{map-append}
use Rattle.std.proofs.Math.Seq.{take-suc}

-- one item more
pub take-item : {X : Type 0} (xs : List X) (i : ℕ) (x : X) → i < length xs → x ≡ get_or xs i x → take (i + 1) xs ≡ take i xs ++ x ∷ []
take-item xs i x within is =
    let next : i + 1 ≡ suc i = omega arith in
    ap (λ k. take k xs) next ∙ (take-suc xs i x within ∙ ap (λ y. take i xs ++ y ∷ []) (sym is))

-- what is made of each item, with one item more
pub map-item : {X Y : Type 0} (f : X → Y) (xs : List X) (i : ℕ) (x : X) (done more : List Y) (y : Y) → i < length xs → x ≡ get_or xs i x → y ≡ f x → done ≡ map f (take i xs) → more ≡ done ++ y ∷ []
    → more ≡ map f (take (i + 1) xs)
map-item f xs i x done more y within is made before pushed =
    pushed
    ∙ (ap (λ y. done ++ y ∷ []) made
    ∙ (ap (λ ys. ys ++ f x ∷ []) before ∙ (sym (map-append f (take i xs) (x ∷ [])) ∙ sym (ap (map f) (take-item xs i x within is)))))

-- all items
pub take-end : {X : Type 0} (xs : List X) (i : ℕ) → length xs ≤ i → take i xs ≡ xs
take-end [] zero h = refl
take-end [] (suc i) h = refl
take-end (x ∷ xs) zero h = absurd (omega (arith, h))
take-end (x ∷ xs) (suc i) h = ap (λ ys. x ∷ ys) (take-end xs i (omega (arith, h)))

-- an item that was read twice
pub read-same : {X : Type 0} (xs : List X) (i : ℕ) (x y : X) → i < length xs → x ≡ get_or xs i x → y ≡ get_or xs i y → x ≡ y
read-same [] i x y within one two = absurd (omega (arith, within))
read-same (z ∷ xs) zero x y within one two = one ∙ sym two
read-same (z ∷ xs) (suc i) x y within one two = read-same xs i x y (omega (arith, within)) one two
