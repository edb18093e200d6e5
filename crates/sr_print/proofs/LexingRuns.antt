-- The token at the front of a text that was written out, where what follows does not go on with it.
use Rattle.std.proofs.Common.{◌≡◌, ℕ, ◌+◌, ◌==◌, Bool, true, false, List, [], ◌∷◌, ◌++◌, length, Some, refl, sym, ap, ◌∙◌, arith, length-append, append_assoc}
use Rattle.std.specs.Prelude.{if◌then◌else◌, ◌||◌, nat_le, codes}
use Rattle.std.specs.Char.{is_ascii_digit}
use Rattle.std.specs.List.{list_all}
use Rattle.std.proofs.lemmas.Bool.{and_parts, cond-true, cond-false}
use Rattle.std.proofs.lemmas.Bool.Decides.{nat_tests}
use Rattle.sr_token.specs.declared.token.TokenKind.TheVariants as kinds
use Rattle.sr_token.specs.Tokens.{begins_word, goes_on_word, run, quoted_length, at_most, quoted_token, first_token}
use Rattle.sr_token.proofs.Quotes.{quoted_length-plain}
use Rattle.sr_grammar.specs.Spaced.{doubled}

-- a blank, or a mark before which no blank stands
abbrev pub ends_at : ℕ → Bool
ends_at b = b == 32 || (b == 44 || (b == 41 || b == 46))

-- what follows goes on with no token but an open mark
abbrev pub ends_token : List ℕ → Bool
ends_token [] = true
ends_token (b ∷ bytes) = ends_at b

-- ---- runs

abbrev EndsRun : (ℕ → Bool) → Type 0
EndsRun passes = (b : ℕ) → ends_at b ≡ true → passes b ≡ false

word-ends : EndsRun goes_on_word
word-ends b e = grind (arith, nat_tests)

digit-ends : EndsRun is_ascii_digit
digit-ends b e = grind (arith, nat_tests)

run_again : (passes : ℕ → Bool) → EndsRun passes → (text rest : List ℕ) → list_all passes text ≡ true → ends_token rest ≡ true → run passes (text ++ rest) ≡ length text
run_again passes ends [] [] all stops = refl
run_again passes ends [] (b ∷ rest) all stops = rw (ends b stops) refl
run_again passes ends (b ∷ text) rest all stops =
    let parts = and_parts (passes b) (list_all passes text) all in
    rw (parts.0, run_again passes ends text rest parts.1 stops) (omega arith)

pub word_again : (b : ℕ) (bytes rest : List ℕ) → begins_word b ≡ true → list_all goes_on_word (b ∷ bytes) ≡ true → nat_le (length (b ∷ bytes)) 64 ≡ true → ends_token rest ≡ true
    → first_token ((b ∷ bytes) ++ rest) ≡ Some (kinds.Word, length (b ∷ bytes))
word_again b bytes rest is all short stops =
    cond-true (begins_word b) _ _ is ∙ ap (at_most 64 kinds.Word) (run_again goes_on_word word-ends (b ∷ bytes) rest all stops) ∙ cond-true (nat_le (length (b ∷ bytes)) 64) _ _ short

digit_no_word : (b : ℕ) → is_ascii_digit b ≡ true → begins_word b ≡ false
digit_no_word b e = grind (arith, nat_tests)

pub number_again : (b : ℕ) (bytes rest : List ℕ) → list_all is_ascii_digit (b ∷ bytes) ≡ true → nat_le (length (b ∷ bytes)) 18 ≡ true → ends_token rest ≡ true
    → first_token ((b ∷ bytes) ++ rest) ≡ Some (kinds.Number, length (b ∷ bytes))
number_again b bytes rest all short stops =
    let first : is_ascii_digit b ≡ true = (and_parts (is_ascii_digit b) (list_all is_ascii_digit bytes) all).0 in
    cond-false (begins_word b) _ _ (digit_no_word b first) ∙ cond-true (is_ascii_digit b) _ _ first
    ∙ ap (at_most 18 kinds.Number) (run_again is_ascii_digit digit-ends (b ∷ bytes) rest all stops) ∙ cond-true (nat_le (length (b ∷ bytes)) 18) _ _ short

-- ---- texts in quotes

no_quote : (b : ℕ) → ends_at b ≡ true → (b == 39) ≡ false
no_quote b e = grind (arith, nat_tests)

quote_ends : (rest : List ℕ) → ends_token rest ≡ true → quoted_length (39 ∷ rest) ≡ Some 1
quote_ends [] e = refl
quote_ends (b ∷ rest) e = rw (no_quote b e) refl

quoted_ends : (text rest : List ℕ) → ends_token rest ≡ true → quoted_length (doubled text ++ 39 ∷ rest) ≡ Some (length (doubled text) + 1)
quoted_ends [] rest e = quote_ends rest e
quoted_ends (b ∷ text) rest e = go (b == 39) refl (quoted_ends text rest e)
  where
    go : (x : Bool) → (b == 39) ≡ x → quoted_length (doubled text ++ 39 ∷ rest) ≡ Some (length (doubled text) + 1)
        → quoted_length (((if x then 39 ∷ 39 ∷ [] else b ∷ []) ++ doubled text) ++ 39 ∷ rest) ≡ Some (length ((if x then 39 ∷ 39 ∷ [] else b ∷ []) ++ doubled text) + 1)
    go true was next = rw next (ap (λ z. Some z) (omega arith))
    go false was next = quoted_length-plain b (doubled text ++ 39 ∷ rest) was ∙ rw next (ap (λ z. Some z) (omega arith))

pub quoted_again : (text rest : List ℕ) → ends_token rest ≡ true
    → first_token ((codes "'" ++ (doubled text ++ codes "'")) ++ rest) ≡ Some (kinds.Quoted, length (codes "'" ++ (doubled text ++ codes "'")))
quoted_again text rest e =
    let flat : (doubled text ++ codes "'") ++ rest ≡ doubled text ++ 39 ∷ rest = append_assoc (doubled text) (codes "'") rest in
    let count : length (doubled text) + 1 ≡ length (doubled text ++ codes "'") = sym (length-append (doubled text) (codes "'")) in
    ap quoted_token (ap quoted_length flat ∙ quoted_ends text rest e) ∙ ap (λ n. Some (kinds.Quoted, n)) (rw count (omega arith))
