-- What a text has as tokens is writable.
use Rattle.std.proofs.Common.{◌≡◌, ℕ, zero, suc, ◌+◌, ◌-◌, ◌==◌, Bool, true, false, List, [], ◌∷◌, length, take, drop, map, Option, Some, None, inl, inr, refl, sym, ap, ap₂, ◌∙◌, arith}
use Rattle.std.specs.Prelude.{if◌then◌else◌, not, nat_le, codes, bytes_eq}
use Rattle.std.specs.Char.{is_ascii_digit, to_ascii_lowercase, to_ascii_uppercase}
use Rattle.std.specs.List.{list_all, list_any}
use Rattle.std.proofs.lemmas.Bool.{and_parts, and_from, or_cases, eqb-true, le-leb}
use Rattle.std.proofs.lemmas.Bool.Decides.{nat_tests}
use Rattle.std.proofs.lemmas.List.{length-map}
use Rattle.sr_token.specs.declared.token.TokenKind.{TokenKind}
use Rattle.sr_token.specs.declared.token.TokenKind.TheVariants as kinds
use Rattle.sr_token.specs.Tokens.{begin, begins_word, goes_on_word, run, quoted_length, is_sign, is_pair, mark_length, at_most, quoted_token, mark_token, first_token, then_rest, tokens_within, tokens_from}
use Rattle.sr_grammar.specs.Tokens.{Key, Named, is_reserved, upper, lower, word_seen, seen, lexeme_seen}
use Rattle.sr_print.specs.Writable.{begins_name, goes_on_name, begins_as_name, marks, is_writable}
use Rattle.sr_print.specs.LexedAgain.{is_writable_or_bad, LexedAreWritable}
use Rattle.sr_print.proofs.LexingFronts.{found_in, all_of}

-- ---- runs

run_taken : (passes : ℕ → Bool) (bytes : List ℕ) → list_all passes (take (run passes bytes) bytes) ≡ true
run_taken passes [] = refl
run_taken passes (b ∷ bytes) = go (passes b) refl (run_taken passes bytes)
  where
    go : (x : Bool) → passes b ≡ x → list_all passes (take (run passes bytes) bytes) ≡ true → list_all passes (take (if x then run passes bytes + 1 else 0) (b ∷ bytes)) ≡ true
    go true was rest = let k : run passes bytes + 1 ≡ suc (run passes bytes) = omega arith in rw (k, was) rest
    go false was rest = refl

run_length : (passes : ℕ → Bool) (bytes : List ℕ) → length (take (run passes bytes) bytes) ≡ run passes bytes
run_length passes [] = refl
run_length passes (b ∷ bytes) = go (passes b) (run_length passes bytes)
  where
    go : (x : Bool) → length (take (run passes bytes) bytes) ≡ run passes bytes → length (take (if x then run passes bytes + 1 else 0) (b ∷ bytes)) ≡ (if x then run passes bytes + 1 else 0)
    go true rest = let k : run passes bytes + 1 ≡ suc (run passes bytes) = omega arith in rw k (ap (λ n. suc n) rest)
    go false rest = refl

run_cons : (passes : ℕ → Bool) (b : ℕ) (bytes : List ℕ) → passes b ≡ true → take (run passes (b ∷ bytes)) (b ∷ bytes) ≡ b ∷ take (run passes bytes) bytes
run_cons passes b bytes is = let k : run passes bytes + 1 ≡ suc (run passes bytes) = omega arith in rw (is, k) refl

-- ---- words

begins-lower : (b : ℕ) → begins_word b ≡ true → begins_name (to_ascii_lowercase b) ≡ true
begins-lower b e = grind (arith, nat_tests)

goes_on-lower : (b : ℕ) → goes_on_word b ≡ true → goes_on_name (to_ascii_lowercase b) ≡ true
goes_on-lower b e = grind (arith, nat_tests)

upper-lower : (b : ℕ) → to_ascii_uppercase (to_ascii_lowercase b) ≡ to_ascii_uppercase b
upper-lower b = grind (arith, nat_tests)

all-lower : (text : List ℕ) → list_all goes_on_word text ≡ true → list_all goes_on_name (lower text) ≡ true
all-lower [] e = refl
all-lower (b ∷ text) e = let x = and_parts (goes_on_word b) (list_all goes_on_word text) e in rw (goes_on-lower b x.0) (all-lower text x.1)

upper_lower : (text : List ℕ) → upper (lower text) ≡ upper text
upper_lower [] = refl
upper_lower (b ∷ text) = ap₂ (λ c s. c ∷ s) (upper-lower b) (upper_lower text)

word_writable : (b : ℕ) (bytes : List ℕ) (from : ℕ) → begins_word b ≡ true → list_all goes_on_word (b ∷ bytes) ≡ true → nat_le (length (b ∷ bytes)) 64 ≡ true → is_writable (word_seen from (b ∷ bytes)) ≡ true
word_writable b bytes from is all short = go (is_reserved (upper (b ∷ bytes))) refl
  where
    go : (x : Bool) → is_reserved (upper (b ∷ bytes)) ≡ x → is_writable (if x then record { kind = Key; text = upper (b ∷ bytes); from = from } else record { kind = Named; text = lower (b ∷ bytes); from = from }) ≡ true
    go true was = was
    go false was =
        let name = lower (b ∷ bytes) in
        let count : nat_le (length name) 64 ≡ true = ap (λ n. nat_le n 64) (length-map (b ∷ bytes) to_ascii_lowercase) ∙ short in
        let free : not (is_reserved (upper name)) ≡ true = ap (λ s. not (is_reserved s)) (upper_lower (b ∷ bytes)) ∙ ap not was in
        and_from (begins_as_name name) _ (begins-lower b is) (and_from (list_all goes_on_name name) _ (all-lower (b ∷ bytes) all) (and_from (nat_le (length name) 64) _ count free))

-- ---- marks

signs_are : list_all (λ b. list_any (bytes_eq (b ∷ [])) marks) (codes "(),;.*-=<>") ≡ true
signs_are = refl

found_sign : (p : ℕ → Bool) (signs : List ℕ) → list_all p signs ≡ true → (b : ℕ) → list_any (λ sign. sign == b) signs ≡ true → p b ≡ true
found_sign p [] all b e = absurd cc
found_sign p (s ∷ signs) all b e =
    let x = and_parts (p s) (list_all p signs) all in
    elim (or_cases (s == b) (list_any (λ sign. sign == b) signs) e) [
      | inl same ↦ ap p (sym (eqb-true s b same)) ∙ x.0
      | inr later ↦ found_sign p signs x.1 b later
    ]

sign_mark : (b : ℕ) → is_sign b ≡ true → list_any (bytes_eq (b ∷ [])) marks ≡ true
sign_mark b e = found_sign (λ c. list_any (bytes_eq (c ∷ [])) marks) (codes "(),;.*-=<>") signs_are b e

pair_mark : (b c : ℕ) → is_pair b c ≡ true → list_any (bytes_eq (b ∷ c ∷ [])) marks ≡ true
pair_mark b c e =
    let pairs = codes "<=" ∷ codes ">=" ∷ codes "<>" ∷ codes "!=" ∷ [] in
    found_in (λ text. list_any (bytes_eq text) marks ≡ true) pairs (all_of (λ text. list_any (bytes_eq text) marks) pairs refl) (b ∷ c ∷ []) e

-- ---- the token at the front

abbrev IsWritableAt : List ℕ → ℕ → Option (TokenKind × ℕ) → Type 0
IsWritableAt bytes from None = Unit {0}
IsWritableAt bytes from (Some t) = is_writable (seen t.0 from (take t.1 bytes)) ≡ true

mark_writable : (b : ℕ) (bytes : List ℕ) (from : ℕ) → IsWritableAt (b ∷ bytes) from (mark_token (mark_length (b ∷ bytes)))
mark_writable b [] from = go (is_sign b) refl
  where
    go : (x : Bool) → is_sign b ≡ x → IsWritableAt (b ∷ []) from (mark_token (if x then 1 else 0))
    go true was = sign_mark b was
    go false was = tt
mark_writable b (c ∷ bytes) from = go (is_pair b c) (is_sign b) refl refl
  where
    go : (x y : Bool) → is_pair b c ≡ x → is_sign b ≡ y → IsWritableAt (b ∷ c ∷ bytes) from (mark_token (if x then 2 else (if y then 1 else 0)))
    go true y was is = pair_mark b c was
    go false true was is = sign_mark b is
    go false false was is = tt

front_writable : (bytes : List ℕ) (from : ℕ) → IsWritableAt bytes from (first_token bytes)
front_writable [] from = tt
front_writable (b ∷ bytes) from = go (begins_word b) (is_ascii_digit b) (b == 39) refl refl
  where
    word : begins_word b ≡ true → (x : Bool) → nat_le (run goes_on_word (b ∷ bytes)) 64 ≡ x → IsWritableAt (b ∷ bytes) from (if x then Some (kinds.Word, run goes_on_word (b ∷ bytes)) else None)
    word is true short =
        let on : goes_on_word b ≡ true = rw is refl in
        let front = run_cons goes_on_word b bytes on in
        let all : list_all goes_on_word (b ∷ take (run goes_on_word bytes) bytes) ≡ true = ap (list_all goes_on_word) (sym front) ∙ run_taken goes_on_word (b ∷ bytes) in
        let count : nat_le (length (b ∷ take (run goes_on_word bytes) bytes)) 64 ≡ true = ap (λ s. nat_le (length s) 64) (sym front) ∙ ap (λ n. nat_le n 64) (run_length goes_on_word (b ∷ bytes)) ∙ short in
        ap (λ s. is_writable (word_seen from s)) front ∙ word_writable b (take (run goes_on_word bytes) bytes) from is all count
    word is false short = tt

    number : is_ascii_digit b ≡ true → (x : Bool) → nat_le (run is_ascii_digit (b ∷ bytes)) 18 ≡ x → IsWritableAt (b ∷ bytes) from (if x then Some (kinds.Number, run is_ascii_digit (b ∷ bytes)) else None)
    number is true short =
        let front = run_cons is_ascii_digit b bytes is in
        let text = take (run is_ascii_digit (b ∷ bytes)) (b ∷ bytes) in
        let some : nat_le 1 (length text) ≡ true = ap (λ s. nat_le 1 (length s)) front ∙ le-leb 1 (suc (length (take (run is_ascii_digit bytes) bytes))) (omega arith) in
        let count : nat_le (length text) 18 ≡ true = ap (λ n. nat_le n 18) (run_length is_ascii_digit (b ∷ bytes)) ∙ short in
        rw (some, run_taken is_ascii_digit (b ∷ bytes), count) refl
    number is false short = tt

    quoted : (o : Option ℕ) → IsWritableAt (b ∷ bytes) from (quoted_token o)
    quoted None = tt
    quoted (Some n) = refl

    go : (w d q : Bool) → begins_word b ≡ w → is_ascii_digit b ≡ d
        → IsWritableAt (b ∷ bytes) from (if w then at_most 64 kinds.Word (run goes_on_word (b ∷ bytes)) else (if d then at_most 18 kinds.Number (run is_ascii_digit (b ∷ bytes)) else (if q then quoted_token (quoted_length bytes) else mark_token (mark_length (b ∷ bytes)))))
    go true d q isw isd = word isw (nat_le (run goes_on_word (b ∷ bytes)) 64) refl
    go false true q isw isd = number isd (nat_le (run is_ascii_digit (b ∷ bytes)) 18) refl
    go false false true isw isd = quoted (quoted_length bytes)
    go false false false isw isd = mark_writable b bytes from

-- ---- all of them

within : (count : ℕ) (source : List ℕ) (at : ℕ) → list_all is_writable_or_bad (map lexeme_seen (tokens_within count source at)) ≡ true
within zero source at = refl
within (suc count) source at = go (begin source at == length source) (first_token (drop (begin source at) source)) (front_writable (drop (begin source at) source) (begin source at)) (λ n. within count source n)
  where
    go : (x : Bool) (o : Option (TokenKind × ℕ)) → IsWritableAt (drop (begin source at) source) (begin source at) o → ((n : ℕ) → list_all is_writable_or_bad (map lexeme_seen (tokens_within count source n)) ≡ true)
        → list_all is_writable_or_bad (map lexeme_seen (if x then [] else then_rest source (begin source at) (tokens_within count source) o)) ≡ true
    go true o is rest = refl
    go false None is rest = refl
    go false (Some t) is rest = rw is (rest (begin source at + t.1))

pub lexed_writable : LexedAreWritable
unfolding tokens_from
lexed_writable text = within (suc (length text - 0)) text 0
