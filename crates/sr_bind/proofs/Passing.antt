-- Conjuncts on one part are on no other.
use Rattle.std.proofs.Common.{◌≡◌, ℕ, ◌<◌, Bool, true, false, List, [], ◌∷◌, refl, ap, arith}
use Rattle.std.specs.Prelude.{not, filter, if◌then◌else◌}
use Rattle.std.proofs.lemmas.Bool.{eqb-true, ne_eqb}
use Rattle.sr_model.specs.Queries.{Output}
use Rattle.sr_query.specs.Binding.{Bound, references, is_of_part}
use Rattle.sr_bind.specs.OneTable.{is_on}

on_no_other : (part k : ℕ) (references : List (ℕ × Output)) → part < k → is_of_part part references ≡ true → is_of_part k references ≡ false
on_no_other part k [] less is = refl
on_no_other part k ((place, o) ∷ others) less is = let same = eqb-true o.part part is in ne_eqb o.part k (λ e. omega (arith, same, e))

pub passed : (part k : ℕ) (bs : List Bound) → part < k → filter (is_on k) (filter (λ b. not (is_on part b)) bs) ≡ filter (is_on k) bs
passed part k [] less = refl
passed part k (b ∷ bs) less = go (is_on part b) (is_on k b) refl refl (passed part k bs less)
  where
    go : (x y : Bool) → is_on part b ≡ x → is_on k b ≡ y → filter (is_on k) (filter (λ b. not (is_on part b)) bs) ≡ filter (is_on k) bs
        → filter (is_on k) (if not x then b ∷ filter (λ b. not (is_on part b)) bs else filter (λ b. not (is_on part b)) bs) ≡ (if y then b ∷ filter (is_on k) bs else filter (is_on k) bs)
    go true true is on rest = absurd (let other = on_no_other part k (references b) less is in cc)
    go true false is on rest = rest
    go false true is on rest = rw on (ap (λ all. b ∷ all) rest)
    go false false is on rest = rw on rest
