-- Leaving blanks out, from the end of a text.
use Rattle.std.proofs.Common.{◌≡◌, ℕ, zero, suc, ◌+◌, ◌-◌, ◌<◌, ◌≤◌, Bool, true, false, ◌&&◌, List, [], ◌∷◌, ◌++◌, length, take, drop, get_or, inl, inr, refl, sym, ap, ◌∙◌, arith}
use Rattle.std.specs.Prelude.{◌⊎◌}
use Rattle.std.specs.List.{list_all}
use Rattle.std.proofs.lemmas.List.{take_more, drop-append-le, drop-take, length-take-le}
use Rattle.std.proofs.lemmas.Bool.Decides.{nat_tests}
use Rattle.sr_token.specs.Tokens.{is_blank}
use Rattle.sr_agg.specs.Inner.{trimmed}

pub blank-ascii : (b : ℕ) → is_blank b ≡ true → b < 128
blank-ascii b h = grind (arith, nat_tests)

-- the last byte of what stands from a place up to another
pub last : (text : List ℕ) (from end : ℕ) → from < end → end ≤ length text → drop from (take end text) ≡ drop from (take (end - 1) text) ++ get_or text (end - 1) 0 ∷ []
last text from end lt le =
    let n : end ≡ end - 1 + 1 = omega arith in
    let more = take_more text (end - 1) 0 (omega arith) in
    let len : length (take (end - 1) text) ≡ end - 1 = length-take-le (end - 1) text (omega arith) in
    ap (λ m. drop from (take m text)) n
    ∙ (ap (drop from) more ∙ drop-append-le from (take (end - 1) text) (get_or text (end - 1) 0 ∷ []) (omega (arith, len)))

all-with : (xs : List ℕ) (b : ℕ) → is_blank b ≡ true → list_all is_blank (xs ++ b ∷ []) ≡ list_all is_blank xs
all-with [] b h = rw h refl
all-with (x ∷ xs) b h = ap (λ r. is_blank x && r) (all-with xs b h)

not-all : (xs : List ℕ) (b : ℕ) → is_blank b ≡ false → list_all is_blank (xs ++ b ∷ []) ≡ false
not-all [] b h = rw h refl
not-all (x ∷ xs) b h = by (is_blank x) (not-all xs b h)
  where
    by : (p : Bool) → list_all is_blank (xs ++ b ∷ []) ≡ false → (p && list_all is_blank (xs ++ b ∷ [])) ≡ false
    by true ih = ih
    by false ih = refl

pub trimmed-more : (xs : List ℕ) (b : ℕ) → is_blank b ≡ true → trimmed (xs ++ b ∷ []) ≡ trimmed xs
trimmed-more [] b h = rw h refl
trimmed-more (x ∷ xs) b h = by (list_all is_blank (x ∷ xs)) refl (trimmed-more xs b h)
  where
    by : (p : Bool) → list_all is_blank (x ∷ xs) ≡ p → trimmed (xs ++ b ∷ []) ≡ trimmed xs → trimmed (x ∷ xs ++ b ∷ []) ≡ trimmed (x ∷ xs)
    by true e ih = let k = all-with (x ∷ xs) b h ∙ e in rw (k, e) refl
    by false e ih = let k = all-with (x ∷ xs) b h ∙ e in rw (k, e) (ap (λ zs. x ∷ zs) ih)

pub trimmed-done : (xs : List ℕ) (b : ℕ) → is_blank b ≡ false → trimmed (xs ++ b ∷ []) ≡ xs ++ b ∷ []
trimmed-done [] b h = rw h refl
trimmed-done (x ∷ xs) b h = let k = not-all (x ∷ xs) b h in rw k (ap (λ zs. x ∷ zs) (trimmed-done xs b h))

pub nothing-from : (n m : ℕ) (xs : List ℕ) → m ≤ n → drop n (take m xs) ≡ []
nothing-from zero zero xs h = refl
nothing-from zero (suc m) xs h = absurd (omega (arith, h))
nothing-from (suc n) zero xs h = refl
nothing-from (suc n) (suc m) [] h = refl
nothing-from (suc n) (suc m) (x ∷ xs) h = nothing-from n m xs (omega (arith, h))

-- what is cut, once a byte that is no blank stands last or nothing is left
pub cut-done : (text : List ℕ) (from end : ℕ) → from ≤ end → end ≤ length text → ((from < end) × (is_blank (get_or text (end - 1) 0) ≡ false)) ⊎ (end ≤ from)
    → take (end - from) (drop from text) ≡ trimmed (drop from (take end text))
cut-done text from end le within (inl h) =
    let n : from + (end - from) ≡ end = omega arith in
    let whole : drop from (take end text) ≡ take (end - from) (drop from text) = sym (ap (λ m. drop from (take m text)) n) ∙ drop-take from (end - from) text in
    let last-byte = last text from end h.0 within in
    sym whole ∙ (last-byte ∙ (sym (trimmed-done (drop from (take (end - 1) text)) (get_or text (end - 1) 0) h.1) ∙ sym (ap trimmed last-byte)))
cut-done text from end le within (inr h) =
    let none : end - from ≡ 0 = omega arith in
    let empty = nothing-from from end text h in
    rw (none, empty) refl
