-- Names of an index stay while others come.
use Rattle.std.proofs.Common.{◌≡◌, ℕ, Bool, true, false, cond, ◌||◌, ◌++◌, List, [], ◌∷◌, refl, sym, ap, subst, ◌∙◌}
use Rattle.std.specs.Prelude.{Some, ◌==◌}
use Rattle.std.specs.List.{list_any}
use Rattle.std.specs.BTreeMap.{get, is_at}
use Rattle.std.proofs.lemmas.List.Folds.{list_any-append}
use Rattle.sr_cell.specs.declared.cell.Cell.{Cell}
use Rattle.sr_cell.proofs.Order.{cell_eq-sound}
use Rattle.sr_keyed.proofs.Order.{order, order-eq}
use Rattle.sr_regions.specs.declared.index.Index.{Index}
use Rattle.sr_regions.specs.Named.{has_number, is_named}

-- the key has one number more, and each other key has what it had
pub named-more : (old new : Index) (key copy : Cell) (numbers more : List ℕ) (number : ℕ) → copy ≡ key → more ≡ numbers ++ number ∷ []
    → ((q : Cell) → get order new.numbers q ≡ cond (is_at (order copy) q) (Some more) (get order old.numbers q))
    → ((m : ℕ) → list_any (λ j. j == m) numbers ≡ is_named order (Some old) key m)
    → (k : Cell) (n : ℕ) → is_named order (Some old) k n ≡ true → is_named order (Some new) k n ≡ true
named-more old new key copy numbers more number is has updates own k n h = go (is_at (order copy) k) refl
  where
    next : (b : Bool) → is_at (order copy) k ≡ b → is_named order (Some new) k n ≡ has_number (cond b (Some more) (get order old.numbers k)) n
    next b at = ap (λ o. has_number o n) (updates k ∙ ap (λ b. cond b (Some more) (get order old.numbers k)) at)

    go : (b : Bool) → is_at (order copy) k ≡ b → is_named order (Some new) k n ≡ true
    go false at = next false at ∙ h
    go true at =
        let same : k ≡ key = cell_eq-sound k copy (sym (order-eq copy k) ∙ at) ∙ is in
        let had : list_any (λ j. j == n) numbers ≡ true = own n ∙ subst (λ q. is_named order (Some old) q n ≡ true) same h in
        next true at ∙ ap (list_any (λ j. j == n)) has ∙ list_any-append (λ j. j == n) numbers (number ∷ []) ∙ ap (λ b. b || list_any (λ j. j == n) (number ∷ [])) had
