-- Words up to a stop, which is a byte that no word has: equal texts have the same word.
use Rattle.std.proofs.Common.{◌≡◌, ℕ, ◌+◌, ◌%◌, ◌<◌, ◌≤◌, ◌^◌, Bool, true, false, List, [], ◌∷◌, ◌++◌, length, refl, sym, ap, subst, ◌∙◌, add-one, arith}
use Rattle.std.specs.Prelude.{not, ◌||◌, ◌==◌, ℤ, pos, negsuc, decimal}
use lib.Signed.{mag}
use Rattle.std.specs.Char.{is_ascii_digit}
use Rattle.std.specs.Fmt.{signed_decimal}
use Rattle.std.specs.List.{list_all}
use Rattle.std.proofs.lemmas.List.Folds.{list_all-append}
use Rattle.std.proofs.lemmas.Fmt.{decimal_by_steps, decimal_injective, decimal_nonempty, signed_decimal_injective}
use Rattle.std.proofs.lemmas.Bool.Decides.{nat_tests}
use Rattle.std.proofs.lemmas.Bool.{and_from}
use Rattle.std.specs.Cmp.{first_so, second_so}
use Rattle.sr_lines.specs.Texts.{number_text}
use Rattle.sr_script.specs.Printable.{in_name, is_name, is_signed}

-- a blank, the end of a line, or one of , . } )
abbrev pub is_stop : ℕ → Bool
is_stop b = (b == 32 || b == 10) || ((b == 44 || b == 46) || (b == 125 || b == 41))

abbrev pub goes_on : ℕ → Bool
goes_on b = not (is_stop b)

abbrev pub is_plain : List ℕ → Bool
is_plain bytes = list_all goes_on bytes

pub clash : (b : ℕ) → is_stop b ≡ true → goes_on b ≡ true → ⊥
clash b s g = no (is_stop b) s g
  where
    no : (t : Bool) → t ≡ true → not t ≡ true → ⊥
    no true s g = cc
    no false s g = cc

pub first_is : (a b : ℕ) (x y : List ℕ) → a ∷ x ≡ b ∷ y → a ≡ b
first_is a b x y e = cc

pub others_are : (a b : ℕ) (x y : List ℕ) → a ∷ x ≡ b ∷ y → x ≡ y
others_are a b x y e = cc

-- the bytes before the first stop
pub cut : (a b x y : List ℕ) (p q : ℕ) → is_plain a ≡ true → is_plain b ≡ true → is_stop p ≡ true → is_stop q ≡ true
    → a ++ (p ∷ x) ≡ b ++ (q ∷ y) → (a ≡ b) × (p ∷ x ≡ q ∷ y)
cut [] [] x y p q one other s t e = (refl, e)
cut [] (b ∷ bs) x y p q one other s t e =
    let same : p ≡ b = cc in
    absurd (clash b (subst (λ z. is_stop z ≡ true) same s) (first_so (goes_on b) (is_plain bs) other))
cut (a ∷ tl) [] x y p q one other s t e =
    let same : q ≡ a = cc in
    absurd (clash a (subst (λ z. is_stop z ≡ true) same t) (first_so (goes_on a) (is_plain tl) one))
cut (a ∷ tl) (b ∷ bs) x y p q one other s t e =
    let first : a ≡ b = cc in
    let later : tl ++ (p ∷ x) ≡ bs ++ (q ∷ y) = cc in
    let rest = cut tl bs x y p q (second_so (goes_on a) (is_plain tl) one) (second_so (goes_on b) (is_plain bs) other) s t later in
    let words : tl ≡ bs = rest.0 in
    let whole : a ∷ tl ≡ b ∷ bs = cc in
    (whole, rest.1)

-- a word that is not empty does not begin with a stop
pub no_stop : (a x y : List ℕ) (q : ℕ) → is_plain a ≡ true → 0 < length a → is_stop q ≡ true → a ++ x ≡ q ∷ y → ⊥
no_stop [] x y q h some t e = omega arith
no_stop (b ∷ a) x y q h some t e =
    clash b (subst (λ z. is_stop z ≡ true) (sym (first_is b q (a ++ x) y e)) t) (first_so (goes_on b) (is_plain a) h)

-- ---- numbers

abbrev pub in_numeral : ℕ → Bool
in_numeral b = b == 45 || is_ascii_digit b

abbrev pub is_numeral : List ℕ → Bool
is_numeral bytes = list_all in_numeral bytes

digit_plain : (b : ℕ) → in_numeral b ≡ true → goes_on b ≡ true
digit_plain b h = grind (arith, nat_tests)

pub numeral_plain : (bytes : List ℕ) → is_numeral bytes ≡ true → is_plain bytes ≡ true
numeral_plain [] h = refl
numeral_plain (b ∷ bytes) h =
    and_from (goes_on b) (is_plain bytes) (digit_plain b (first_so (in_numeral b) (is_numeral bytes) h)) (numeral_plain bytes (second_so (in_numeral b) (is_numeral bytes) h))

digit_in : (d : ℕ) → d < 10 → in_numeral (48 + d) ≡ true
digit_in d h = grind (arith, nat_tests)

one_digit : (n : ℕ) → n < 10 → is_numeral ((48 + n) ∷ []) ≡ true
one_digit n h = and_from (in_numeral (48 + n)) true (digit_in n h) refl

more_digits : (n : ℕ) (ds : List ℕ) → 10 ≤ n → is_numeral ds ≡ true → is_numeral (ds ++ ((48 + n % 10) ∷ [])) ≡ true
more_digits n ds big h =
    let small : n % 10 < 10 = omega arith in
    list_all-append in_numeral ds ((48 + n % 10) ∷ []) ∙ and_from (is_numeral ds) (is_numeral ((48 + n % 10) ∷ [])) h (one_digit (n % 10) small)

pub decimal_numeral : (n : ℕ) → n < 2 ^ 64 → is_numeral (decimal n) ≡ true
decimal_numeral n h = decimal_by_steps (λ k ds. is_numeral ds ≡ true) one_digit more_digits n h

pub decimal_plain : (n : ℕ) → n < 2 ^ 64 → is_plain (decimal n) ≡ true
decimal_plain n h = numeral_plain (decimal n) (decimal_numeral n h)

pub decimal_cut : (m n : ℕ) (x y : List ℕ) (p q : ℕ) → m < 2 ^ 64 → n < 2 ^ 64 → is_stop p ≡ true → is_stop q ≡ true
    → decimal m ++ (p ∷ x) ≡ decimal n ++ (q ∷ y) → (m ≡ n) × (p ∷ x ≡ q ∷ y)
decimal_cut m n x y p q f g s t e =
    let parts = cut (decimal m) (decimal n) x y p q (decimal_plain m f) (decimal_plain n g) s t e in
    (decimal_injective m n f g parts.0, parts.1)

signed_text : (z : ℤ) → number_text z ≡ signed_decimal z
signed_text (pos n) = refl
signed_text (negsuc n) = ap (λ k. 45 ∷ decimal k) (add-one n)

signed_small : (z : ℤ) → is_signed z ≡ true → mag z < 2 ^ 63
signed_small (pos n) h = grind (arith, nat_tests)
signed_small (negsuc n) h = grind (arith, nat_tests)

signed_numeral : (z : ℤ) → mag z < 2 ^ 63 → is_numeral (number_text z) ≡ true
signed_numeral (pos n) h = decimal_numeral n (omega arith)
signed_numeral (negsuc n) h = and_from (in_numeral 45) (is_numeral (decimal (n + 1))) refl (decimal_numeral (n + 1) (omega arith))

pub number_numeral : (z : ℤ) → is_signed z ≡ true → is_numeral (number_text z) ≡ true
number_numeral z h = signed_numeral z (signed_small z h)

signed_some : (z : ℤ) → mag z < 2 ^ 63 → 0 < length (number_text z)
signed_some (pos n) h = decimal_nonempty n (omega arith)
signed_some (negsuc n) h = omega arith

-- a number does not begin with a stop
pub no_number : (z : ℤ) (x y : List ℕ) (q : ℕ) → is_signed z ≡ true → is_stop q ≡ true → number_text z ++ x ≡ q ∷ y → ⊥
no_number z x y q f t e = no_stop (number_text z) x y q (numeral_plain (number_text z) (number_numeral z f)) (signed_some z (signed_small z f)) t e

pub number_cut : (y z : ℤ) (a b : List ℕ) (p q : ℕ) → is_signed y ≡ true → is_signed z ≡ true → is_stop p ≡ true → is_stop q ≡ true
    → number_text y ++ (p ∷ a) ≡ number_text z ++ (q ∷ b) → (y ≡ z) × (p ∷ a ≡ q ∷ b)
number_cut y z a b p q f g s t e =
    let plain_y = numeral_plain (number_text y) (number_numeral y f) in
    let plain_z = numeral_plain (number_text z) (number_numeral z g) in
    let parts = cut (number_text y) (number_text z) a b p q plain_y plain_z s t e in
    let texts : signed_decimal y ≡ signed_decimal z = sym (signed_text y) ∙ parts.0 ∙ signed_text z in
    (signed_decimal_injective y z (signed_small y f) (signed_small z g) texts, parts.1)

-- a byte with which neither a number nor a stop begins
pub no_numeral : (a : List ℕ) (p c : ℕ) (x y : List ℕ) → is_numeral a ≡ true → is_stop p ≡ true → in_numeral c ≡ false → is_stop c ≡ false → a ++ (p ∷ x) ≡ c ∷ y → ⊥
no_numeral [] p c x y h s f g e =
    let same : p ≡ c = cc in
    apart (is_stop p) s (ap is_stop same ∙ g)
  where
    apart : (t : Bool) → t ≡ true → t ≡ false → ⊥
    apart t s g = cc
no_numeral (b ∷ a) p c x y h s f g e =
    let same : b ≡ c = cc in
    apart (in_numeral b) (first_so (in_numeral b) (is_numeral a) h) (ap in_numeral same ∙ f)
  where
    apart : (t : Bool) → t ≡ true → t ≡ false → ⊥
    apart t s g = cc

-- ---- names

in_name_plain : (b : ℕ) → in_name b ≡ true → goes_on b ≡ true
in_name_plain b h = grind (arith, nat_tests)

in_names_plain : (bytes : List ℕ) → list_all in_name bytes ≡ true → is_plain bytes ≡ true
in_names_plain [] h = refl
in_names_plain (b ∷ bytes) h =
    and_from (goes_on b) (is_plain bytes) (in_name_plain b (first_so (in_name b) (list_all in_name bytes) h)) (in_names_plain bytes (second_so (in_name b) (list_all in_name bytes) h))

pub name_plain : (name : List ℕ) → is_name name ≡ true → is_plain name ≡ true
name_plain [] h = absurd cc
name_plain (b ∷ bytes) h = in_names_plain (b ∷ bytes) h
