-- Texts of printable bytes, which stand on one line.
use Rattle.std.proofs.Common.{◌≡◌, ℕ, ◌+◌, ◌%◌, ◌<◌, ◌≤◌, ◌^◌, Bool, true, false, List, [], ◌∷◌, ◌++◌, refl, ◌∙◌, arith}
use Rattle.std.specs.Prelude.{◌==◌, decimal}
use Rattle.std.specs.List.{list_all}
use Rattle.std.specs.Cmp.{first_so, second_so}
use Rattle.std.specs.Str.{IsAscii, is_utf8}
use Rattle.std.proofs.lemmas.Bool.{and_from}
use Rattle.std.proofs.lemmas.Bool.Decides.{nat_tests}
use Rattle.std.proofs.lemmas.Fmt.{decimal_by_steps}
use Rattle.std.proofs.lemmas.List.Folds.{list_all-append}
use Rattle.std.proofs.lemmas.Str.{IsUtf8-from_ascii, is_utf8-from_IsUtf8}
use Rattle.std.proofs.lemmas.Str.Ascii.{IsAscii-cons, IsAscii-nil}
use Rattle.sr_lines.specs.Lines.{lines_of}
use Rattle.sr_lines.specs.Texts.{is_printable}

-- each byte is printable
abbrev pub is_plain : List ℕ → Bool
is_plain text = list_all is_printable text

pub plain-append : (a b : List ℕ) → is_plain a ≡ true → is_plain b ≡ true → is_plain (a ++ b) ≡ true
plain-append a b p q = list_all-append is_printable a b ∙ and_from (is_plain a) (is_plain b) p q

-- ---- numbers

printable-digit : (d : ℕ) → d < 10 → is_printable (48 + d) ≡ true
printable-digit d h = grind (arith, nat_tests)

one-digit : (n : ℕ) → n < 10 → is_plain ((48 + n) ∷ []) ≡ true
one-digit n h = and_from (is_printable (48 + n)) true (printable-digit n h) refl

more-digits : (n : ℕ) (ds : List ℕ) → 10 ≤ n → is_plain ds ≡ true → is_plain (ds ++ ((48 + n % 10) ∷ [])) ≡ true
more-digits n ds big h =
    let below : n % 10 < 10 = omega arith in
    plain-append ds ((48 + n % 10) ∷ []) h (one-digit (n % 10) below)

pub plain-decimal : (n : ℕ) → n < 2 ^ 64 → is_plain (decimal n) ≡ true
plain-decimal n h = decimal_by_steps (λ k ds. is_plain ds ≡ true) one-digit more-digits n h

-- ---- characters

ascii-byte : (b : ℕ) → is_printable b ≡ true → b < 128
ascii-byte b h = grind (arith, nat_tests)

ascii-plain : (text : List ℕ) → is_plain text ≡ true → IsAscii text
ascii-plain [] h = IsAscii-nil
ascii-plain (b ∷ text) h =
    IsAscii-cons b text (ascii-byte b (first_so (is_printable b) (is_plain text) h)) (ascii-plain text (second_so (is_printable b) (is_plain text) h))

pub utf8-plain : (text : List ℕ) → is_plain text ≡ true → is_utf8 text ≡ true
utf8-plain text h = is_utf8-from_IsUtf8 text (IsUtf8-from_ascii text (ascii-plain text h))

-- ---- lines

no-feed : (b : ℕ) → is_printable b ≡ true → (b == 10) ≡ false
no-feed b h = grind (arith, nat_tests)

no-return : (b : ℕ) → is_printable b ≡ true → (b == 13) ≡ false
no-return b h = grind (arith, nat_tests)

-- a text and a line feed are the first line
pub first-line : (text rest : List ℕ) → is_plain text ≡ true → lines_of (text ++ (10 ∷ rest)) ≡ text ∷ lines_of rest
first-line [] rest h = refl
first-line (b ∷ text) rest h =
    let feed = no-feed b (first_so (is_printable b) (is_plain text) h) in
    let return = no-return b (first_so (is_printable b) (is_plain text) h) in
    rw (feed, return) (rw (first-line text rest (second_so (is_printable b) (is_plain text) h)) refl)
