-- Where a region is put.
use Rattle.std.proofs.Common.{◌≡◌, ℕ, suc, ◌+◌, ◌<◌, ◌≤◌, true, false, List, [], ◌∷◌, ◌++◌, length, take, drop, refl, sym, ap, ◌∙◌, arith, inl, inr}
use Rattle.std.specs.Prelude.{slice_get, Some, None, ◌⊎◌}
use Rattle.std.proofs.lemmas.List.{take_at, drop_at, length-take-le}
use Rattle.std.specs.List.{prefix_len}
use Rattle.std.proofs.lemmas.Bool.{cases_Bool}
use Rattle.sr_region.specs.declared.region.Region.{Region}
use Rattle.sr_store.specs.declared.start.Kept.{Kept}
use Rattle.sr_image.specs.Joining.{is_of, is_of_at, joined, kept_from, place_of, stands_before, with_region}

of-stays : (r : Region) (k : Kept) → is_of r k ≡ true → stands_before r k ≡ false
of-stays r k h = grind arith

none-of : (r : Region) (k : Kept) → stands_before r k ≡ true → is_of r k ≡ false
none-of r k h = by (cases_Bool (is_of r k))
  where
    by : (is_of r k ≡ true) ⊎ (is_of r k ≡ false) → is_of r k ≡ false
    by (inl same) = absurd (cc (of-stays r k same, h))
    by (inr other) = other

place-more : (r : Region) (k : Kept) (kept : List Kept) → stands_before r k ≡ true → place_of r (k ∷ kept) ≡ suc (place_of r kept)
place-more r k kept h = rw h (omega arith)

place-none : (r : Region) (k : Kept) (kept : List Kept) → stands_before r k ≡ false → place_of r (k ∷ kept) ≡ 0
place-none r k kept h = rw h refl

-- a part in front of what is put together
behind-one : (l y : Kept) (kept : List Kept) (p q : ℕ) → l ∷ (take p kept ++ y ∷ drop q kept) ≡ take (suc p) (l ∷ kept) ++ y ∷ drop (suc q) (l ∷ kept)
behind-one l y kept p q = refl

pub put-joined : (kept : List Kept) (r : Region) (k : Kept) → slice_get kept (place_of r kept) ≡ Some k → is_of r k ≡ true
    → with_region kept r ≡ take (place_of r kept) kept ++ joined k r ∷ drop (place_of r kept + 1) kept
put-joined [] r k at same = absurd cc
put-joined (l ∷ kept) r k at same = by (cases_Bool (stands_before r l)) (put-joined kept r k)
  where
    by : (stands_before r l ≡ true) ⊎ (stands_before r l ≡ false)
        → (slice_get kept (place_of r kept) ≡ Some k → is_of r k ≡ true → with_region kept r ≡ take (place_of r kept) kept ++ joined k r ∷ drop (place_of r kept + 1) kept)
        → with_region (l ∷ kept) r ≡ take (place_of r (l ∷ kept)) (l ∷ kept) ++ joined k r ∷ drop (place_of r (l ∷ kept) + 1) (l ∷ kept)
    by (inl first) others =
        let p : ℕ = place_of r kept in
        let more : place_of r (l ∷ kept) ≡ suc p = place-more r l kept first in
        let there : slice_get kept p ≡ Some k = sym (ap (slice_get (l ∷ kept)) more) ∙ at in
        let step : with_region (l ∷ kept) r ≡ l ∷ with_region kept r = rw (none-of r l first, first) refl in
        let next : suc p + 1 ≡ suc (p + 1) = omega arith in
        step ∙ ap (λ (xs : List Kept). l ∷ xs) (others there same) ∙ behind-one l (joined k r) kept p (p + 1)
        ∙ ap (λ n. take (suc p) (l ∷ kept) ++ joined k r ∷ drop n (l ∷ kept)) (sym next) ∙ ap (λ n. take n (l ∷ kept) ++ joined k r ∷ drop (n + 1) (l ∷ kept)) (sym more)
    by (inr other) others =
        let here : place_of r (l ∷ kept) ≡ 0 = place-none r l kept other in
        let found : Some l ≡ Some k = sym (ap (slice_get (l ∷ kept)) here) ∙ at in
        let is : l ≡ k = cc in
        let of : is_of r l ≡ true = ap (is_of r) is ∙ same in
        let step : with_region (l ∷ kept) r ≡ joined l r ∷ kept = rw of refl in
        step ∙ ap (λ (m : Kept). joined m r ∷ kept) is ∙ ap (λ n. take n (l ∷ kept) ++ joined k r ∷ drop (n + 1) (l ∷ kept)) (sym here)

pub put-new : (kept : List Kept) (r : Region) → is_of_at r (slice_get kept (place_of r kept)) ≡ false → with_region kept r ≡ take (place_of r kept) kept ++ kept_from r ∷ drop (place_of r kept) kept
put-new [] r none = refl
put-new (l ∷ kept) r none = by (cases_Bool (stands_before r l)) (put-new kept r)
  where
    by : (stands_before r l ≡ true) ⊎ (stands_before r l ≡ false)
        → (is_of_at r (slice_get kept (place_of r kept)) ≡ false → with_region kept r ≡ take (place_of r kept) kept ++ kept_from r ∷ drop (place_of r kept) kept)
        → with_region (l ∷ kept) r ≡ take (place_of r (l ∷ kept)) (l ∷ kept) ++ kept_from r ∷ drop (place_of r (l ∷ kept)) (l ∷ kept)
    by (inl first) others =
        let p : ℕ = place_of r kept in
        let more : place_of r (l ∷ kept) ≡ suc p = place-more r l kept first in
        let there : is_of_at r (slice_get kept p) ≡ false = sym (ap (λ n. is_of_at r (slice_get (l ∷ kept) n)) more) ∙ none in
        let step : with_region (l ∷ kept) r ≡ l ∷ with_region kept r = rw (none-of r l first, first) refl in
        step ∙ ap (λ (xs : List Kept). l ∷ xs) (others there) ∙ ap (λ n. take n (l ∷ kept) ++ kept_from r ∷ drop n (l ∷ kept)) (sym more)
    by (inr other) others =
        let here : place_of r (l ∷ kept) ≡ 0 = place-none r l kept other in
        let differs : is_of r l ≡ false = sym (ap (λ n. is_of_at r (slice_get (l ∷ kept) n)) here) ∙ none in
        let step : with_region (l ∷ kept) r ≡ kept_from r ∷ (l ∷ kept) = rw (differs, other) refl in
        step ∙ ap (λ n. take n (l ∷ kept) ++ kept_from r ∷ drop n (l ∷ kept)) (sym here)

-- an item that was taken out, and another in its place
pub put-back : (kept : List Kept) (y : Kept) (p : ℕ) → p ≤ length kept → take p (take p kept ++ drop (p + 1) kept) ++ y ∷ drop p (take p kept ++ drop (p + 1) kept) ≡ take p kept ++ y ∷ drop (p + 1) kept
put-back kept y p le =
    let size : length (take p kept) ≡ p = length-take-le p kept le in
    rw (take_at (take p kept) (drop (p + 1) kept) p size, drop_at (take p kept) (drop (p + 1) kept) p size) refl
