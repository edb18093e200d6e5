-- A writable token that is written out is the token at the front.
use Rattle.std.proofs.Common.{◌≡◌, ℕ, ◌<◌, ◌≤◌, ◌==◌, Bool, true, false, List, [], ◌∷◌, ◌++◌, length, Some, inl, inr, refl, ap, ap₂, ◌∙◌, arith}
use Rattle.std.specs.Prelude.{if◌then◌else◌, ◌||◌, ◌&&◌, nat_le, nat_lt, codes, bytes_eq}
use Rattle.std.specs.Char.{is_ascii_digit, to_ascii_lowercase}
use Rattle.std.specs.List.{list_all, list_any}
use Rattle.std.proofs.lemmas.Bool.{and_parts, or_cases, not-true, eqb-true, ltb-true, leb-true}
use Rattle.std.proofs.lemmas.Bool.Decides.{nat_tests}
use Rattle.sr_token.specs.declared.token.TokenKind.{TokenKind}
use Rattle.sr_token.specs.declared.token.TokenKind.TheVariants as kinds
use Rattle.sr_token.specs.Tokens.{begins_word, goes_on_word, is_sign, is_pair, first_token}
use Rattle.sr_grammar.specs.Tokens.{Kind, Key, Named, Number, Quoted, Mark, Bad, Tok, reserved, is_reserved, upper, lower, up_to_quote, seen}
use Rattle.sr_grammar.specs.Printed.{token}
use Rattle.sr_grammar.specs.Spaced.{doubled, text_of_kind, is_close, is_open, spaced}
use Rattle.sr_grammar.specs.Places.{bare_token}
use Rattle.sr_grammar_laws.proofs.Words.{bytes_eq-true}
use Rattle.sr_print.specs.Writable.{begins_name, goes_on_name, begins_as_name, marks, is_writable_as}
use Rattle.sr_print.proofs.LexingRuns.{ends_at, ends_token, word_again, number_again, quoted_again}

-- what holds of each text of a list holds of a text that is in it
abbrev pub AllOf : (List ℕ → Type 0) → List (List ℕ) → Type 0
AllOf P [] = Unit {0}
AllOf P (x ∷ xs) = P x × AllOf P xs

pub found_in : (P : List ℕ → Type 0) (texts : List (List ℕ)) → AllOf P texts → (text : List ℕ) → list_any (bytes_eq text) texts ≡ true → P text
found_in P [] all text e = absurd cc
found_in P (x ∷ xs) all text e =
    elim (or_cases (bytes_eq text x) (list_any (bytes_eq text) xs) e) [
      | inl same ↦ rw (bytes_eq-true text x same) all.0
      | inr later ↦ found_in P xs all.1 text later
    ]

-- ---- marks

-- a sign alone, where no pair begins with it
sign_again : (b : ℕ) (rest : List ℕ) → begins_word b ≡ false → is_ascii_digit b ≡ false → (b == 39) ≡ false → is_sign b ≡ true
    → ((c : ℕ) (bytes : List ℕ) → rest ≡ c ∷ bytes → is_pair b c ≡ false) → first_token (b ∷ rest) ≡ Some (kinds.Mark, 1)
sign_again b [] word digit quote sign alone = rw (word, digit, quote, sign) refl
sign_again b (c ∷ rest) word digit quote sign alone = rw (word, digit, quote, alone c rest refl, sign) refl

less_ends : (c : ℕ) → ends_at c ≡ true → is_pair 60 c ≡ false
less_ends c e = grind (arith, nat_tests)

greater_ends : (c : ℕ) → ends_at c ≡ true → is_pair 62 c ≡ false
greater_ends c e = grind (arith, nat_tests)

abbrev MarkAgain : List ℕ → Type 0
MarkAgain text = (rest : List ℕ) → (is_open (token Mark text 0) ≡ false → ends_token rest ≡ true) → first_token (text ++ rest) ≡ Some (kinds.Mark, length text)

plain_sign : (b : ℕ) → begins_word b ≡ false → is_ascii_digit b ≡ false → (b == 39) ≡ false → is_sign b ≡ true → ((c : ℕ) → is_pair b c ≡ false) → MarkAgain (b ∷ [])
plain_sign b word digit quote sign alone rest ends = sign_again b rest word digit quote sign (λ c bytes e. alone c)

marks_again : AllOf MarkAgain marks
marks_again = (
  plain_sign 40 refl refl refl refl (λ c. refl),
  (
    plain_sign 41 refl refl refl refl (λ c. refl),
    (
      plain_sign 44 refl refl refl refl (λ c. refl),
      (
        plain_sign 59 refl refl refl refl (λ c. refl),
        (
          plain_sign 46 refl refl refl refl (λ c. refl),
          (
            plain_sign 42 refl refl refl refl (λ c. refl),
            (
              plain_sign 45 refl refl refl refl (λ c. refl),
              (
                plain_sign 61 refl refl refl refl (λ c. refl),
                (
                  λ rest ends. sign_again 60 rest refl refl refl refl (λ c bytes e. less_ends c (rw (← ap ends_token e) (ends refl))),
                  (
                    λ rest ends. sign_again 62 rest refl refl refl refl (λ c bytes e. greater_ends c (rw (← ap ends_token e) (ends refl))),
                    (λ rest ends. refl, (λ rest ends. refl, (λ rest ends. refl, (λ rest ends. refl, tt)))),
                  ),
                ),
              ),
            ),
          ),
        ),
      ),
    ),
  ),
)

-- ---- words

pub all_of : (p : List ℕ → Bool) (texts : List (List ℕ)) → list_all p texts ≡ true → AllOf (λ text. p text ≡ true) texts
all_of p [] e = tt
all_of p (x ∷ xs) e = let parts = and_parts (p x) (list_all p xs) e in (parts.0, all_of p xs parts.1)

abbrev pub begins_as_word : List ℕ → Bool
begins_as_word [] = false
begins_as_word (b ∷ bytes) = begins_word b

-- a word in upper case
abbrev is_upper_word : List ℕ → Bool
is_upper_word text = bytes_eq (upper text) text && (begins_as_word text && (list_all goes_on_word text && nat_le (length text) 64))

reserved_words : list_all is_upper_word reserved ≡ true
reserved_words = refl

reserved_is : (text : List ℕ) → is_reserved text ≡ true → is_upper_word text ≡ true
reserved_is text e = found_in (λ t. is_upper_word t ≡ true) reserved (all_of is_upper_word reserved reserved_words) text e

whole_word : (text rest : List ℕ) → (begins_as_word text && (list_all goes_on_word text && nat_le (length text) 64)) ≡ true → ends_token rest ≡ true
    → first_token (text ++ rest) ≡ Some (kinds.Word, length text)
whole_word [] rest e stops = absurd cc
whole_word (b ∷ bytes) rest e stops =
    let x = and_parts (begins_word b) _ e in
    let y = and_parts (list_all goes_on_word (b ∷ bytes)) _ x.1 in
    word_again b bytes rest x.0 y.0 y.1 stops

weaker : (p q : ℕ → Bool) → ((b : ℕ) → p b ≡ true → q b ≡ true) → (text : List ℕ) → list_all p text ≡ true → list_all q text ≡ true
weaker p q so [] e = refl
weaker p q so (b ∷ text) e = let x = and_parts (p b) (list_all p text) e in rw (so b x.0) (weaker p q so text x.1)

begins-name : (b : ℕ) → begins_name b ≡ true → begins_word b ≡ true
begins-name b e = grind (arith, nat_tests)

goes_on-name : (b : ℕ) → goes_on_name b ≡ true → goes_on_word b ≡ true
goes_on-name b e = grind (arith, nat_tests)

name_begins : (text : List ℕ) → begins_as_name text ≡ true → begins_as_word text ≡ true
name_begins [] e = absurd cc
name_begins (b ∷ text) e = begins-name b e

lower_same : (b : ℕ) → goes_on_name b ≡ true → to_ascii_lowercase b ≡ b
lower_same b e = grind (arith, nat_tests)

name_lower : (text : List ℕ) → list_all goes_on_name text ≡ true → lower text ≡ text
name_lower [] e = refl
name_lower (b ∷ text) e = let x = and_parts (goes_on_name b) (list_all goes_on_name text) e in ap₂ (λ c s. c ∷ s) (lower_same b x.0) (name_lower text x.1)

-- ---- any token

abbrev pub code_of : Kind → TokenKind
code_of Key = kinds.Word
code_of Named = kinds.Word
code_of Number = kinds.Number
code_of Quoted = kinds.Quoted
code_of Mark = kinds.Mark
code_of Bad = kinds.Mark

number_front : (text rest : List ℕ) → is_writable_as Number text ≡ true → ends_token rest ≡ true → first_token (text ++ rest) ≡ Some (kinds.Number, length text)
number_front [] rest e stops = absurd cc
number_front (b ∷ bytes) rest e stops =
    let x = and_parts (nat_le 1 (length (b ∷ bytes))) _ e in
    let y = and_parts (list_all is_ascii_digit (b ∷ bytes)) _ x.1 in
    number_again b bytes rest y.0 y.1 stops

pub front_again : (kind : Kind) (text rest : List ℕ) → is_writable_as kind text ≡ true → (is_open (token kind text 0) ≡ false → ends_token rest ≡ true)
    → first_token (text_of_kind kind text ++ rest) ≡ Some (code_of kind, length (text_of_kind kind text))
front_again Key text rest e ends = whole_word text rest (and_parts (bytes_eq (upper text) text) _ (reserved_is text e)).1 (ends refl)
front_again Named text rest e ends =
    let x = and_parts (begins_as_name text) _ e in
    let y = and_parts (list_all goes_on_name text) _ x.1 in
    let z = and_parts (nat_le (length text) 64) _ y.1 in
    whole_word text rest (rw (name_begins text x.0, weaker goes_on_name goes_on_word goes_on-name text y.0) z.0) (ends refl)
front_again Number text rest e ends = number_front text rest e (ends refl)
front_again Quoted text rest e ends = quoted_again text rest (ends refl)
front_again Mark text rest e ends = found_in MarkAgain marks marks_again text e rest ends
front_again Bad text rest e ends = absurd cc

-- what is in quotes
quote_step : (b : ℕ) (bytes : List ℕ) → (b == 39) ≡ false → up_to_quote (b ∷ (doubled bytes ++ 39 ∷ [])) ≡ b ∷ up_to_quote (doubled bytes ++ 39 ∷ [])
quote_step b bytes e = go (doubled bytes)
  where
    go : (s : List ℕ) → up_to_quote (b ∷ (s ++ 39 ∷ [])) ≡ b ∷ up_to_quote (s ++ 39 ∷ [])
    go [] = rw e refl
    go (c ∷ s) = rw e refl

inside : (text : List ℕ) → up_to_quote (doubled text ++ 39 ∷ []) ≡ text
inside [] = refl
inside (b ∷ text) = go (b == 39) refl (inside text)
  where
    go : (x : Bool) → (b == 39) ≡ x → up_to_quote (doubled text ++ 39 ∷ []) ≡ text → up_to_quote (((if x then 39 ∷ 39 ∷ [] else b ∷ []) ++ doubled text) ++ 39 ∷ []) ≡ b ∷ text
    go true was e = let same : b ≡ 39 = eqb-true b 39 was in rw (e, same) refl
    go false was e = quote_step b text was ∙ ap (λ s. b ∷ s) e

-- the token that is seen there
pub seen_again : (kind : Kind) (text : List ℕ) (from : ℕ) → is_writable_as kind text ≡ true → bare_token (seen (code_of kind) from (text_of_kind kind text)) ≡ token kind text 0
seen_again Key text from e = let same : upper text ≡ text = bytes_eq-true (upper text) text (and_parts (bytes_eq (upper text) text) _ (reserved_is text e)).0 in rw (same, e) refl
seen_again Named text from e =
    let x = and_parts (begins_as_name text) _ e in
    let y = and_parts (list_all goes_on_name text) _ x.1 in
    let z = and_parts (nat_le (length text) 64) _ y.1 in
    rw (not-true _ z.1, name_lower text y.0) refl
seen_again Number text from e = refl
seen_again Quoted text from e = rw (inside text) refl
seen_again Mark text from e = refl
seen_again Bad text from e = absurd cc

-- ---- what stands behind a token

close_ends : (kind : Kind) (text rest : List ℕ) → is_close (token kind text 0) ≡ true → ends_token (text_of_kind kind text ++ rest) ≡ true
close_ends Key text rest e = absurd cc
close_ends Named text rest e = absurd cc
close_ends Number text rest e = absurd cc
close_ends Quoted text rest e = absurd cc
close_ends Bad text rest e = absurd cc
close_ends Mark text rest e =
    elim (or_cases (bytes_eq text (codes ",") || bytes_eq text (codes ")")) (bytes_eq text (codes ".")) e) [
      | inl early ↦ elim (or_cases (bytes_eq text (codes ",")) (bytes_eq text (codes ")")) early) [
        | inl same ↦ rw (bytes_eq-true text (codes ",") same) refl
        | inr same ↦ rw (bytes_eq-true text (codes ")") same) refl
      ]
      | inr same ↦ rw (bytes_eq-true text (codes ".") same) refl
    ]

pub spaced_ends : (ts : List Tok) → ends_token (spaced false ts) ≡ true
spaced_ends [] = refl
spaced_ends (t ∷ ts) = go (is_close t) refl
  where
    go : (x : Bool) → is_close t ≡ x → ends_token ((if x then [] else codes " ") ++ (text_of_kind t.kind t.text ++ spaced (is_open t) ts)) ≡ true
    go true was = close_ends t.kind t.text (spaced (is_open t) ts) was
    go false was = refl

-- ---- a token has a byte

begun : (text : List ℕ) → begins_as_name text ≡ true → 0 < length text
begun [] e = absurd cc
begun (b ∷ text) e = omega arith

pub some_text : (kind : Kind) (text : List ℕ) → is_writable_as kind text ≡ true → 0 < length (text_of_kind kind text)
some_text Key text e = ltb-true 0 (length text) (found_in (λ t. nat_lt 0 (length t) ≡ true) reserved (all_of (λ t. nat_lt 0 (length t)) reserved refl) text e)
some_text Named text e = begun text (and_parts (begins_as_name text) _ e).0
some_text Number text e = let some : 1 ≤ length text = leb-true 1 (length text) (and_parts (nat_le 1 (length text)) _ e).0 in omega arith
some_text Quoted text e = omega arith
some_text Mark text e = ltb-true 0 (length text) (found_in (λ t. nat_lt 0 (length t) ≡ true) marks (all_of (λ t. nat_lt 0 (length t)) marks refl) text e)
some_text Bad text e = absurd cc
