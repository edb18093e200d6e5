-- Bytes, numbers and texts: what is spelled is read again, and what is read is spelled.
use Rattle.std.proofs.Common.{◌≡◌, ℕ, zero, suc, ℤ, pos, negsuc, ◌^◌, ◌<◌, ◌≤◌, Bool, true, false, cond, ltb, List, [], ◌∷◌, ◌++◌, length, get_or, take, drop, refl, sym, ap, subst, ◌∙◌, arith, inl, inr}
use Rattle.std.specs.Prelude.{IsTrue, IsUtf8, FitsSigned, nat_le}
use Rattle.std.specs.Str.{is_utf8}
use Rattle.std.specs.Int.{Width, w16, w32, w64, byte_len, from_be_bytes, to_be_bytes, cast_signed, cast_unsigned}
use Rattle.std.proofs.lemmas.Bool.{ltb-false, le-ltb, ltb-true, lt-ltb, le-leb, cases_Bool, and_from}
use Rattle.std.proofs.lemmas.List.{take_at, drop_at, take-append-drop, length-append, length-take}
use Rattle.std.proofs.lemmas.Nat.{be_bytes_2, be_bytes_4, be_bytes_8, from_be_bytes-to_be_bytes_2, from_be_bytes-to_be_bytes_4, from_be_bytes-to_be_bytes_8}
use Rattle.std.proofs.lemmas.Int.{to_z-of_z, of_z-to_z}
use Rattle.std.proofs.lemmas.Str.{IsUtf8-from_is_utf8, is_utf8-from_IsUtf8}
use Rattle.std.proofs.Math.Facts.{Fits-of_z, sfits_to_z}
use Rattle.std.specs.Cmp.{first_so, second_so}
use Rattle.sr_cell.specs.Columns.{are_bytes}
use Rattle.sr_bytes.specs.Reading.{Got, Bad, give, passing, a_byte, a_number, bytes_that, any_bytes, a_signed, a_text}
use Rattle.sr_bytes.specs.Spelling.{number_bytes, long_bytes, count_bytes, short_count_bytes, text_bytes, is_from_to, is_number}
use Rattle.sr_bytes.proofs.Steps.{step_of, got_value, got_rest, passed, front_bytes}

-- ---- one byte

pub byte_spelled : (bytes : List ℕ) (b : ℕ) (rest : List ℕ) → a_byte bytes ≡ Got b rest → bytes ≡ b ∷ rest
byte_spelled [] b rest e = absurd cc
byte_spelled (c ∷ bytes) b rest e = rw (got_value c b bytes rest e, got_rest c b bytes rest e) refl

pub byte_in_again : (test : ℕ → Bool) (b : ℕ) (rest : List ℕ) → IsTrue (test b) → passing test a_byte (b ∷ rest) ≡ Got b rest
byte_in_again test b rest h = rw h refl

pub byte_in_spelled : (test : ℕ → Bool) (bytes : List ℕ) (b : ℕ) (rest : List ℕ) → passing test a_byte bytes ≡ Got b rest → (bytes ≡ b ∷ rest) × IsTrue (test b)
byte_in_spelled test bytes b rest e =
    let p = passed test bytes (a_byte bytes) b rest e in
    (byte_spelled bytes b rest p.0, p.1)

-- ---- numbers

at_byte : (bytes : List ℕ) → IsTrue (are_bytes bytes) → (i : ℕ) → get_or bytes i 0 < 256
at_byte [] fits i = omega arith
at_byte (b ∷ bytes) fits zero = ltb-true b 256 (first_so (ltb b 256) (are_bytes bytes) fits)
at_byte (b ∷ bytes) fits (suc i) = at_byte bytes (second_so (ltb b 256) (are_bytes bytes) fits) i

record IsWide (w : Width) (limit : ℕ) : Type 0 where
  pub len : (n : ℕ) → length (to_be_bytes w n) ≡ byte_len w
  pub back : (bytes : List ℕ) → length bytes ≡ byte_len w → IsTrue (are_bytes bytes) → to_be_bytes w (from_be_bytes w bytes) ≡ bytes
  pub again : (n : ℕ) → n < limit → from_be_bytes w (to_be_bytes w n) ≡ n
  pub below : (bytes : List ℕ) → IsTrue (are_bytes bytes) → from_be_bytes w bytes < limit

wide16 : IsWide w16 (2 ^ 16)
wide16 = record {
  len = λ n. refl;
  back = λ bytes len fits. be_bytes_2 bytes _ len (at_byte bytes fits) refl;
  again = λ n lt. from_be_bytes-to_be_bytes_2 n lt;
  below = λ bytes fits. omega (arith, at_byte bytes fits 0, at_byte bytes fits 1);
}

wide32 : IsWide w32 (2 ^ 32)
wide32 = record {
  len = λ n. refl;
  back = λ bytes len fits. be_bytes_4 bytes _ len (at_byte bytes fits) refl;
  again = λ n lt. from_be_bytes-to_be_bytes_4 n lt;
  below = λ bytes fits. omega (arith, at_byte bytes fits 0, at_byte bytes fits 1, at_byte bytes fits 2, at_byte bytes fits 3);
}

wide64 : IsWide w64 (2 ^ 64)
wide64 = record {
  len = λ n. refl;
  back = λ bytes len fits. be_bytes_8 bytes _ len (at_byte bytes fits) refl;
  again = λ n lt. from_be_bytes-to_be_bytes_8 n lt;
  below = λ bytes fits. omega (arith, at_byte bytes fits 0, at_byte bytes fits 1, at_byte bytes fits 2, at_byte bytes fits 3, at_byte bytes fits 4, at_byte bytes fits 5, at_byte bytes fits 6, at_byte bytes fits 7);
}

-- a branch that did not fail
unless : {A : Type 0} (b : Bool) (bytes : List ℕ) (x y : A) (r rest : List ℕ) → cond b (Bad bytes) (Got x r) ≡ Got y rest → (b ≡ false) × (x ≡ y) × (r ≡ rest)
unless true bytes x y r rest e = absurd cc
unless false bytes x y r rest e = (refl, got_value x y r rest e, got_rest x y r rest e)

number_again : (w : Width) (limit : ℕ) → IsWide w limit → (n : ℕ) (rest : List ℕ) → n < limit → a_number w (to_be_bytes w n ++ rest) ≡ Got n rest
number_again w limit wide n rest lt =
    let len = wide.len n in
    let long : ltb (length (to_be_bytes w n ++ rest)) (byte_len w) ≡ false = le-ltb _ _ (omega (arith, length-append (to_be_bytes w n) rest)) in
    rw (long, take_at (to_be_bytes w n) rest (byte_len w) len, drop_at (to_be_bytes w n) rest (byte_len w) len, wide.again n lt) refl

number_spelled : (w : Width) (limit : ℕ) → IsWide w limit → (bytes : List ℕ) (n : ℕ) (rest : List ℕ) → IsTrue (are_bytes bytes) → a_number w bytes ≡ Got n rest → (bytes ≡ to_be_bytes w n ++ rest) × (n < limit)
number_spelled w limit wide bytes n rest fits e =
    let g = unless (ltb (length bytes) (byte_len w)) bytes (from_be_bytes w (take (byte_len w) bytes)) n (drop (byte_len w) bytes) rest e in
    let long : byte_len w ≤ length bytes = ltb-false _ _ g.0 in
    let cut = sym (take-append-drop (byte_len w) bytes) in
    let front = front_bytes bytes (take (byte_len w) bytes) (drop (byte_len w) bytes) cut fits in
    let back : to_be_bytes w n ≡ take (byte_len w) bytes = rw (← g.1) (wide.back (take (byte_len w) bytes) (omega (arith, length-take (byte_len w) bytes)) front) in
    (rw (back, ← g.2) cut, rw (← g.1) (wide.below (take (byte_len w) bytes) front))

pub short_count_again : (n : ℕ) (rest : List ℕ) → n < 2 ^ 16 → a_number w16 (short_count_bytes n ++ rest) ≡ Got n rest
unfolding short_count_bytes
short_count_again n rest lt = number_again w16 (2 ^ 16) wide16 n rest lt

pub short_count_spelled : (bytes : List ℕ) (n : ℕ) (rest : List ℕ) → IsTrue (are_bytes bytes) → a_number w16 bytes ≡ Got n rest → (bytes ≡ short_count_bytes n ++ rest) × (n < 2 ^ 16)
unfolding short_count_bytes
short_count_spelled bytes n rest fits e = number_spelled w16 (2 ^ 16) wide16 bytes n rest fits e

pub count_again : (n : ℕ) (rest : List ℕ) → n < 2 ^ 32 → a_number w32 (count_bytes n ++ rest) ≡ Got n rest
unfolding count_bytes
count_again n rest lt = number_again w32 (2 ^ 32) wide32 n rest lt

pub count_spelled : (bytes : List ℕ) (n : ℕ) (rest : List ℕ) → IsTrue (are_bytes bytes) → a_number w32 bytes ≡ Got n rest → (bytes ≡ count_bytes n ++ rest) × (n < 2 ^ 32)
unfolding count_bytes
count_spelled bytes n rest fits e = number_spelled w32 (2 ^ 32) wide32 bytes n rest fits e

pub long_again : (n : ℕ) (rest : List ℕ) → n < 2 ^ 64 → a_number w64 (long_bytes n ++ rest) ≡ Got n rest
unfolding long_bytes
long_again n rest lt = number_again w64 (2 ^ 64) wide64 n rest lt

pub long_spelled : (bytes : List ℕ) (n : ℕ) (rest : List ℕ) → IsTrue (are_bytes bytes) → a_number w64 bytes ≡ Got n rest → (bytes ≡ long_bytes n ++ rest) × (n < 2 ^ 64)
unfolding long_bytes
long_spelled bytes n rest fits e = number_spelled w64 (2 ^ 64) wide64 bytes n rest fits e

-- ---- signed numbers

fits_signed : (z : ℤ) → IsTrue (is_number z) → FitsSigned w64 z
fits_signed (pos n) h = record { sfits = ltb-true _ _ h }
fits_signed (negsuc n) h = record { sfits = ltb-true _ _ h }

is_number_from : (z : ℤ) → FitsSigned w64 z → IsTrue (is_number z)
is_number_from (pos n) h = lt-ltb _ _ h.sfits
is_number_from (negsuc n) h = lt-ltb _ _ h.sfits

pub signed_again : (z : ℤ) (rest : List ℕ) → IsTrue (is_number z) → a_signed (number_bytes z ++ rest) ≡ Got z rest
unfolding number_bytes
signed_again z rest h =
    let fits = fits_signed z h in
    rw (number_again w64 (2 ^ 64) wide64 (cast_unsigned w64 z) rest (Fits-of_z fits).fits, to_z-of_z w64 z fits) refl

pub signed_spelled : (bytes : List ℕ) (z : ℤ) (rest : List ℕ) → IsTrue (are_bytes bytes) → a_signed bytes ≡ Got z rest → (bytes ≡ number_bytes z ++ rest) × IsTrue (is_number z)
unfolding number_bytes
signed_spelled bytes z rest fits e =
    let s = step_of (a_number w64 bytes) (λ n. give (cast_signed w64 n)) z rest e in
    let t = number_spelled w64 (2 ^ 64) wide64 bytes s.value s.left fits s.first in
    let is_z = got_value (cast_signed w64 s.value) z s.left rest s.second in
    let is_rest = got_rest (cast_signed w64 s.value) z s.left rest s.second in
    let back : number_bytes z ≡ to_be_bytes w64 s.value = ap number_bytes (sym is_z) ∙ ap (to_be_bytes w64) (of_z-to_z w64 s.value t.1) in (
      t.0 ∙ ap (λ (r : List ℕ). to_be_bytes w64 s.value ++ r) is_rest ∙ ap (λ (front : List ℕ). front ++ rest) (sym back),
      subst (λ v. IsTrue (is_number v)) is_z (is_number_from (cast_signed w64 s.value) (sfits_to_z (record { fits = t.1 }))),
    )

-- ---- texts

pub from-to : (low high n : ℕ) → low ≤ n → n ≤ high → is_from_to low high n ≡ true
from-to low high n above below = and_from (nat_le low n) (nat_le n high) (le-leb low n above) (le-leb n high below)

pub from_zero : (high n : ℕ) → IsTrue (nat_le n high) → IsTrue (is_from_to 0 high n)
from_zero high n h = and_from (nat_le 0 n) (nat_le n high) (le-leb 0 n (omega arith)) h

pub to_zero : (high n : ℕ) → IsTrue (is_from_to 0 high n) → IsTrue (nat_le n high)
to_zero high n h = second_so (nat_le 0 n) (nat_le n high) h

fronts : {A : Type 0} (a b : Bool) (bytes : List ℕ) (x y : A) (r rest : List ℕ) → cond a (Bad bytes) (cond b (Got x r) (Bad bytes)) ≡ Got y rest → (a ≡ false) × (b ≡ true) × (x ≡ y) × (r ≡ rest)
fronts true b bytes x y r rest e = absurd cc
fronts false true bytes x y r rest e = (refl, refl, got_value x y r rest e, got_rest x y r rest e)
fronts false false bytes x y r rest e = absurd cc

-- the bytes of a text, at the front
pub record IsFront (test : List ℕ → Bool) (n : ℕ) (bytes text rest : List ℕ) : Type 0 where
  pub parts : bytes ≡ text ++ rest
  pub count : length text ≡ n
  pub passes : IsTrue (test text)

pub front_spelled : (test : List ℕ → Bool) (n : ℕ) (bytes text rest : List ℕ) → bytes_that test n bytes ≡ Got text rest → IsFront test n bytes text rest
front_spelled test n bytes text rest e =
    let g = fronts (ltb (length bytes) n) (test (take n bytes)) bytes (take n bytes) text (drop n bytes) rest e in
    let long : n ≤ length bytes = ltb-false _ _ g.0 in
    let count : length (take n bytes) ≡ n = omega (arith, length-take n bytes) in
    let parts : bytes ≡ take n bytes ++ rest = sym (take-append-drop n bytes) ∙ ap (λ (r : List ℕ). take n bytes ++ r) g.3 in
    subst (λ t. IsFront test n bytes t rest) g.2 (record { parts = parts; count = count; passes = g.1 })

pub text_again : (low high : ℕ) (test : List ℕ → Bool) (text rest : List ℕ) → IsTrue (is_from_to low high (length text)) → IsTrue (test text) → a_text low high test (text_bytes text ++ rest) ≡ Got text rest
text_again low high test text rest h g =
    let long : ltb (length (text ++ rest)) (length text) ≡ false = le-ltb _ _ (omega (arith, length-append text rest)) in
    rw (h, long, take_at text rest (length text) refl, drop_at text rest (length text) refl, g) refl

pub record IsText (low high : ℕ) (test : List ℕ → Bool) (bytes text rest : List ℕ) : Type 0 where
  pub parts : bytes ≡ text_bytes text ++ rest
  pub count : IsTrue (is_from_to low high (length text))
  pub passes : IsTrue (test text)

pub text_spelled : (low high : ℕ) (test : List ℕ → Bool) (bytes text rest : List ℕ) → a_text low high test bytes ≡ Got text rest → IsText low high test bytes text rest
text_spelled low high test bytes text rest e =
    let s = step_of (passing (is_from_to low high) a_byte bytes) (bytes_that test) text rest e in
    let b = byte_in_spelled (is_from_to low high) bytes s.value s.left s.first in
    let f = front_spelled test s.value s.left text rest s.second in
    record {
      parts = b.0 ∙ ap (λ (t : List ℕ). s.value ∷ t) f.parts ∙ ap (λ (n : ℕ). n ∷ (text ++ rest)) (sym f.count);
      count = rw f.count b.1;
      passes = f.passes;
    }

-- bytes that were cut off are a text, or not

utf8_on : (n : ℕ) (bytes front rest : List ℕ) (b : Bool) → bytes_that any_bytes n bytes ≡ Got front rest → is_utf8 front ≡ b → bytes_that is_utf8 n bytes ≡ cond b (Got front rest) (Bad bytes)
utf8_on n bytes front rest b e h =
    let g = unless (ltb (length bytes) n) bytes (take n bytes) front (drop n bytes) rest e in
    rw (g.0, g.1, g.2, h) refl

pub is_text : (n : ℕ) (bytes front rest text : List ℕ) → bytes_that any_bytes n bytes ≡ Got front rest → text ≡ front → IsUtf8 front → bytes_that is_utf8 n bytes ≡ Got text rest
is_text n bytes front rest text e same are =
    utf8_on n bytes front rest true e (is_utf8-from_IsUtf8 front are) ∙ ap (λ (t : List ℕ). Got t rest) (sym same)

pub is_no_text : (n : ℕ) (bytes front rest : List ℕ) → bytes_that any_bytes n bytes ≡ Got front rest → (IsUtf8 front → ⊥) → bytes_that is_utf8 n bytes ≡ Bad bytes
is_no_text n bytes front rest e other =
    elim (cases_Bool (is_utf8 front)) [
      | inl holds ↦ absurd (other (IsUtf8-from_is_utf8 front holds))
      | inr fails ↦ utf8_on n bytes front rest false e fails
    ]
