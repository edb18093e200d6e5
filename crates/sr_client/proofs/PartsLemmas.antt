-- Lists of parts, and of what is asked of them.
use Rattle.std.proofs.Common.{◌≡◌, ℕ, suc, ◌+◌, Bool, true, false, List, [], ◌∷◌, map, refl, sym, ◌∙◌, ap, subst, arith, Some}
use Rattle.std.specs.Prelude.{not, ◌||◌, ◌==◌, slice_get}
use Rattle.std.specs.List.{list_any}
use Rattle.std.proofs.lemmas.Bool.Decides.{nat_tests}
use Rattle.std.proofs.lemmas.Bool.{and_parts}
use Rattle.sr_message.specs.declared.message.AskPart.{AskPart}
use Rattle.sr_model.specs.Queries as model
use Rattle.sr_query.specs.Joined.{are_different}

-- holds of each entry and its number; i is the number of the first
abbrev pub EachFrom : (ℕ → AskPart → Type 0) → ℕ → List AskPart → Type 0
EachFrom P i [] = Unit {0}
EachFrom P i (ask ∷ asks) = P i ask × EachFrom P (i + 1) asks

pub each-from : (P : ℕ → AskPart → Type 0) (i : ℕ) (asks : List AskPart) → ((k : ℕ) (ask : AskPart) → slice_get asks k ≡ Some ask → P (i + k) ask) → EachFrom P i asks
each-from P i [] holds = tt
each-from P i (ask ∷ asks) holds = (
  subst (λ n. P n ask) (zero-more i) (holds 0 ask refl),
  each-from P (i + 1) asks (λ k other at. subst (λ n. P n other) (next i k) (holds (suc k) other at)),
)
  where
    zero-more : (i : ℕ) → i + 0 ≡ i
    zero-more i = omega arith

    next : (i k : ℕ) → i + suc k ≡ (i + 1) + k
    next i k = omega arith

-- the same from the first on
pub each-at : (P : ℕ → AskPart → Type 0) (asks : List AskPart) → ((k : ℕ) (ask : AskPart) → slice_get asks k ≡ Some ask → P k ask) → EachFrom P 0 asks
each-at P asks holds = each-from P 0 asks (λ k ask at. subst (λ n. P n ask) (more k) (holds k ask at))
  where
    more : (k : ℕ) → k ≡ 0 + k
    more k = omega arith

-- ---- numbers

pub apart-numbers : (a b : ℕ) → (a == b) ≡ false → a ≡ b → ⊥
apart-numbers a b apart same = let own : (a == b) ≡ true = grind (arith, nat_tests, same) in let wrong : true ≡ false = sym own ∙ apart in cc

pub numbers-apart : (a b : ℕ) → (a ≡ b → ⊥) → (a == b) ≡ false
numbers-apart a b other = grind (arith, nat_tests, other)

-- ---- tables

-- one of the parts is of the table
abbrev pub is_named : ℕ → List model.Part → Bool
is_named t meant = list_any (λ (m : model.Part). m.table == t) meant

named-same : (t : ℕ) (meant : List model.Part) → list_any (λ n. n == t) (map (λ (m : model.Part). m.table) meant) ≡ list_any (λ (m : model.Part). m.table == t) meant
named-same t [] = refl
named-same t (m ∷ meant) = ap (λ b. m.table == t || b) (named-same t meant)

-- of different tables, the first is of none of the others', and the others differ too
pub first-differs : (m : model.Part) (meant : List model.Part) → are_different (map (λ (m : model.Part). m.table) (m ∷ meant)) ≡ true → is_named m.table meant ≡ false
first-differs m meant differ =
    let test = (and_parts (not (list_any (λ n. n == m.table) (map (λ (m : model.Part). m.table) meant))) (are_different (map (λ (m : model.Part). m.table) meant)) differ).0 in
    sym (named-same m.table meant) ∙ none (list_any (λ n. n == m.table) (map (λ (m : model.Part). m.table) meant)) test
  where
    none : (b : Bool) → not b ≡ true → b ≡ false
    none true h = absurd (cc)
    none false h = refl

pub rest-differs : (m : model.Part) (meant : List model.Part) → are_different (map (λ (m : model.Part). m.table) (m ∷ meant)) ≡ true → are_different (map (λ (m : model.Part). m.table) meant) ≡ true
rest-differs m meant differ = (and_parts (not (list_any (λ n. n == m.table) (map (λ (m : model.Part). m.table) meant))) (are_different (map (λ (m : model.Part). m.table) meant)) differ).1
