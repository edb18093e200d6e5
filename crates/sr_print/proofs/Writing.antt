-- How texts of tokens are put together.
use Rattle.std.proofs.Common.{◌≡◌, ℕ, suc, ◌+◌, ◌==◌, ◌||◌, ◌<◌, ◌≤◌, Bool, true, false, List, [], ◌∷◌, ◌++◌, length, get_or, flat_map, inl, inr, refl, sym, ap, ap₂, ◌∙◌, arith, append_assoc, append-nil}
use Rattle.std.specs.Prelude.{if◌then◌else◌, codes, ℤ, pos, negsuc}
use Rattle.std.specs.Fmt.{signed_decimal}
use Rattle.std.specs.Char.{encode_utf8}
use Rattle.std.specs.Str.{chars, IsUtf8, encode_utf8_all as encodes}
use Rattle.std.proofs.lemmas.Bool.{cases_lt}
use Rattle.std.proofs.lemmas.Bool.Decides.{nat_tests}
use Rattle.std.proofs.lemmas.Grind.{common_steps, flat_map-append}
use Rattle.std.proofs.lemmas.Str.{encode_ascii, inside_one, encodes-chars}
use Rattle.sr_grammar.specs.Tokens.{Quoted}
use Rattle.sr_grammar.specs.Printed as tokens
use Rattle.sr_grammar.specs.Spaced.{doubled}
use Rattle.sr_print.specs.Writes.{Page, stroke, written}

-- a letter with each quote doubled
abbrev pub doubled_letter : ℕ → List ℕ
doubled_letter c = if c == 39 then 39 ∷ 39 ∷ [] else encode_utf8 c

-- ---- texts in quotes

doubled-append : (x y : List ℕ) → doubled (x ++ y) ≡ doubled x ++ doubled y
doubled-append x y = flat_map-append (λ b. if b == 39 then 39 ∷ 39 ∷ [] else b ∷ []) x y

doubled_high : (xs : List ℕ) → ((k : ℕ) → k < length xs → 128 ≤ get_or xs k 0) → doubled xs ≡ xs
doubled_high [] h = refl
doubled_high (x ∷ xs) h =
    let high : 128 ≤ x = h 0 (omega arith) in
    let differs : (x == 39) ≡ false = grind (arith, nat_tests) in
    rw differs (ap (λ l. x ∷ l) (doubled_high xs (λ k below. h (suc k) (omega arith))))

doubled_low : (c : ℕ) (x : Bool) → (c == 39) ≡ x → c < 128 → doubled (encode_utf8 c) ≡ (if x then 39 ∷ 39 ∷ [] else encode_utf8 c)
doubled_low c true is small = rw (encode_ascii c small, is) refl
doubled_low c false is small = rw (encode_ascii c small, is) refl

-- a letter beyond ASCII has no byte that is a quote
doubled_one : (c : ℕ) → doubled (encode_utf8 c) ≡ doubled_letter c
doubled_one c = elim (cases_lt c 128) [
  | inl small ↦ doubled_low c (c == 39) refl small
  | inr big ↦
      let high : (k : ℕ) → k < length (encode_utf8 c) → 128 ≤ get_or (encode_utf8 c) k 0 = λ k below. elim (cases_lt (get_or (encode_utf8 c) k 0) 128) [
        | inl low ↦ absurd (omega (arith, inside_one c [] (encode_utf8 c) k (sym (append-nil _)) below low))
        | inr h ↦ h
      ] in
      let differs : (c == 39) ≡ false = grind (arith, nat_tests) in
      rw differs (doubled_high (encode_utf8 c) high)
]

doubled_all : (cs : List ℕ) → doubled (encodes cs) ≡ flat_map doubled_letter cs
doubled_all [] = refl
doubled_all (c ∷ cs) = doubled-append (encode_utf8 c) (encodes cs) ∙ ap₂ (λ (a b : List ℕ). a ++ b) (doubled_one c) (doubled_all cs)

pub doubled-chars : (text : List ℕ) → IsUtf8 text → flat_map doubled_letter (chars text) ≡ doubled text
doubled-chars text u = sym (doubled_all (chars text)) ∙ ap doubled (encodes-chars text u)

-- one letter more
pub one_letter : (front before : List ℕ) (c : ℕ) (old new : List ℕ) → old ≡ front ++ flat_map doubled_letter before → new ≡ old ++ doubled_letter c
    → new ≡ front ++ flat_map doubled_letter (before ++ c ∷ [])
one_letter front before c old new so pushed =
    let grown = flat_map-append doubled_letter before (c ∷ []) ∙ ap (λ z. flat_map doubled_letter before ++ z) (append-nil (doubled_letter c)) in
    pushed ∙ ap (λ z. z ++ doubled_letter c) so ∙ append_assoc front (flat_map doubled_letter before) (doubled_letter c) ∙ ap (λ z. front ++ z) (sym grown)

-- ---- tokens of a kind

pub quoted_written : (page : Page) (text a b d e : List ℕ) → a ≡ page.text ++ (if page.tight || false then [] else codes " ")
    → b ≡ a ++ codes "'" → d ≡ b ++ doubled text → e ≡ d ++ codes "'" → record { text = e; tight = false } ≡ stroke page Quoted text
unfolding stroke
quoted_written page text a b d e i j k l = ap (λ s. record { text = s; tight = false }) (rw (l, k, j, i) (grind (arith, common_steps)))

pub prefix_written : (page : Page) (text a b d e : List ℕ) → a ≡ page.text ++ (if page.tight || false then [] else codes " ")
    → b ≡ a ++ codes "'" → d ≡ b ++ doubled text → e ≡ d ++ codes "%'" → record { text = e; tight = false } ≡ stroke page Quoted (text ++ codes "%")
unfolding stroke
prefix_written page text a b d e i j k l = ap (λ s. record { text = s; tight = false }) (rw (l, k, j, i, doubled-append text (codes "%")) (grind (arith, common_steps)))

pub number_written : (page : Page) (number : ℤ) (a e : List ℕ) → a ≡ page.text ++ (if page.tight || false then [] else codes " ")
    → e ≡ a ++ signed_decimal number → record { text = e; tight = false } ≡ written page (tokens.number number 0)
unfolding stroke
number_written page (pos n) a e i j = ap (λ s. record { text = s; tight = false }) (rw (j, i) (append_assoc page.text _ _))
number_written page (negsuc n) a e i j = let k : suc n ≡ n + 1 = omega arith in ap (λ s. record { text = s; tight = false }) (rw (j, i, k) (grind (arith, common_steps)))
