-- Texts in quotes, in hexadecimal, and cells: equal texts have the same bytes, and the same follows.
use Rattle.std.proofs.Common.{◌≡◌, ℕ, ◌+◌, ◌/◌, ◌%◌, Bool, true, false, cond, List, [], ◌∷◌, ◌++◌, refl, sym, ap, subst, ◌∙◌, arith}
use Rattle.std.specs.Prelude.{◌==◌, nat_le, codes, flat_map}
use Rattle.std.specs.List.{list_all}
use Rattle.std.proofs.lemmas.Bool.Decides.{nat_tests}
use Rattle.std.proofs.lemmas.Bool.{both_ways}
use Rattle.sr_cell.specs.declared.cell.Cell.{Cell}
use Rattle.sr_cell.specs.declared.cell.Cell.TheVariants.{Num, Str, Null}
use Rattle.sr_lines.specs.Texts.{number_text, hex_digit, hex_byte, hexadecimal, quoted_byte, quoted, is_printable, bytes_text, cell_text}
use Rattle.sr_script.specs.Printable.{is_cell}
use Rattle.sr_script.proofs.Plain.{is_stop, in_numeral, first_is, others_are, number_cut, number_numeral, no_numeral, no_number}

-- ---- in quotes

-- the quoted bytes, the quote behind them, and what follows
abbrev inside : List ℕ → List ℕ → List ℕ
inside [] after = 39 ∷ after
inside (b ∷ s) after = cond (b == 39) (39 ∷ 39 ∷ inside s after) (b ∷ inside s after)

inside_is : (s after : List ℕ) → (flat_map quoted_byte s ++ codes "'") ++ after ≡ inside s after
inside_is [] after = refl
inside_is (b ∷ s) after = by (b == 39) ∙ ap (λ z. cond (b == 39) (39 ∷ 39 ∷ z) (b ∷ z)) (inside_is s after)
  where
    by : (k : Bool) → (cond k (39 ∷ 39 ∷ []) (b ∷ []) ++ flat_map quoted_byte s ++ codes "'") ++ after
        ≡ cond k (39 ∷ 39 ∷ ((flat_map quoted_byte s ++ codes "'") ++ after)) (b ∷ ((flat_map quoted_byte s ++ codes "'") ++ after))
    by true = refl
    by false = refl

one_byte : (b c : ℕ) (s t : List ℕ) (k l : Bool) → (b == 39) ≡ k → (c == 39) ≡ l → cond k (39 ∷ 39 ∷ s) (b ∷ s) ≡ cond l (39 ∷ 39 ∷ t) (c ∷ t) → (b ≡ c) × (s ≡ t)
one_byte b c s t true true f g e = (grind (arith, nat_tests), let rest : s ≡ t = cc in rest)
one_byte b c s t false false f g e = (let first : b ≡ c = cc in first, let rest : s ≡ t = cc in rest)
one_byte b c s t true false f g e = let is : 39 ≡ c = cc in absurd (both_ways (c == 39) g (ap (λ z. z == 39) (sym is)))
one_byte b c s t false true f g e = let is : b ≡ 39 = cc in absurd (both_ways (b == 39) f (ap (λ z. z == 39) is))

-- no byte in quotes is read where they end
no_byte : (c p : ℕ) (x t : List ℕ) (k : Bool) → (c == 39) ≡ k → is_stop p ≡ true → 39 ∷ p ∷ x ≡ cond k (39 ∷ 39 ∷ t) (c ∷ t) → ⊥
no_byte c p x t true f s e = let is : p ≡ 39 = cc in both_ways (is_stop p) (ap is_stop is) s
no_byte c p x t false f s e = let is : 39 ≡ c = cc in both_ways (c == 39) f (ap (λ z. z == 39) (sym is))

quotes_cut : (s t x y : List ℕ) (p q : ℕ) → is_stop p ≡ true → is_stop q ≡ true → inside s (p ∷ x) ≡ inside t (q ∷ y) → (s ≡ t) × (p ∷ x ≡ q ∷ y)
quotes_cut [] [] x y p q f g e = (refl, let rest : p ∷ x ≡ q ∷ y = cc in rest)
quotes_cut [] (c ∷ t) x y p q f g e = absurd (no_byte c p x (inside t (q ∷ y)) (c == 39) refl f e)
quotes_cut (b ∷ s) [] x y p q f g e = absurd (no_byte b q y (inside s (p ∷ x)) (b == 39) refl g (sym e))
quotes_cut (b ∷ s) (c ∷ t) x y p q f g e =
    let front = one_byte b c (inside s (p ∷ x)) (inside t (q ∷ y)) (b == 39) (c == 39) refl refl e in
    let rest = quotes_cut s t x y p q f g front.1 in
    (ap (λ z. z ∷ s) front.0 ∙ ap (λ z. c ∷ z) rest.0, rest.1)

-- ---- in hexadecimal

abbrev in_hex : List ℕ → List ℕ → List ℕ
in_hex [] after = 39 ∷ after
in_hex (b ∷ s) after = hex_digit (b / 16) ∷ hex_digit (b % 16) ∷ in_hex s after

in_hex_is : (s after : List ℕ) → (flat_map hex_byte s ++ codes "'") ++ after ≡ in_hex s after
in_hex_is [] after = refl
in_hex_is (b ∷ s) after = ap (λ z. hex_digit (b / 16) ∷ hex_digit (b % 16) ∷ z) (in_hex_is s after)

digit_by : (d e : ℕ) (k l : Bool) → nat_le d 9 ≡ k → nat_le e 9 ≡ l → cond k (48 + d) (87 + d) ≡ cond l (48 + e) (87 + e) → d ≡ e
digit_by d e true true f g same = omega arith
digit_by d e false false f g same = omega arith
digit_by d e true false f g same = grind (arith, nat_tests)
digit_by d e false true f g same = grind (arith, nat_tests)

same_digit : (d e : ℕ) → hex_digit d ≡ hex_digit e → d ≡ e
same_digit d e same = digit_by d e (nat_le d 9) (nat_le e 9) refl refl same

no_digit_by : (d : ℕ) (k : Bool) → 39 ≡ cond k (48 + d) (87 + d) → ⊥
no_digit_by d true e = omega arith
no_digit_by d false e = omega arith

same_byte : (b c : ℕ) → b / 16 ≡ c / 16 → b % 16 ≡ c % 16 → b ≡ c
same_byte b c high low = omega arith

hex_cut : (s t x y : List ℕ) (p q : ℕ) → in_hex s (p ∷ x) ≡ in_hex t (q ∷ y) → (s ≡ t) × (p ∷ x ≡ q ∷ y)
hex_cut [] [] x y p q e = (refl, let rest : p ∷ x ≡ q ∷ y = cc in rest)
hex_cut [] (c ∷ t) x y p q e = let is : 39 ≡ hex_digit (c / 16) = cc in absurd (no_digit_by (c / 16) (nat_le (c / 16) 9) is)
hex_cut (b ∷ s) [] x y p q e = let is : 39 ≡ hex_digit (b / 16) = cc in absurd (no_digit_by (b / 16) (nat_le (b / 16) 9) is)
hex_cut (b ∷ s) (c ∷ t) x y p q e =
    let high : hex_digit (b / 16) ≡ hex_digit (c / 16) = cc in
    let low : hex_digit (b % 16) ≡ hex_digit (c % 16) = cc in
    let later : in_hex s (p ∷ x) ≡ in_hex t (q ∷ y) = cc in
    let same = same_byte b c (same_digit (b / 16) (c / 16) high) (same_digit (b % 16) (c % 16) low) in
    let rest = hex_cut s t x y p q later in
    (ap (λ z. z ∷ s) same ∙ ap (λ z. c ∷ z) rest.0, rest.1)

-- ---- texts and cells

abbrev shown : Bool → List ℕ → List ℕ → List ℕ
shown true s after = 39 ∷ inside s after
shown false s after = 120 ∷ 39 ∷ in_hex s after

text_is : (s after : List ℕ) → bytes_text s ++ after ≡ shown (list_all is_printable s) s after
text_is s after = by (list_all is_printable s)
  where
    by : (k : Bool) → cond k (quoted s) (hexadecimal s) ++ after ≡ shown k s after
    by true = ap (λ z. 39 ∷ z) (inside_is s after)
    by false = ap (λ z. 120 ∷ 39 ∷ z) (in_hex_is s after)

in_quotes_cut : (s t x y : List ℕ) (p q : ℕ) → is_stop p ≡ true → is_stop q ≡ true → 39 ∷ inside s (p ∷ x) ≡ 39 ∷ inside t (q ∷ y) → (s ≡ t) × (p ∷ x ≡ q ∷ y)
in_quotes_cut s t x y p q f g e = quotes_cut s t x y p q f g (others_are 39 39 (inside s (p ∷ x)) (inside t (q ∷ y)) e)

in_hex_cut : (s t x y : List ℕ) (p q : ℕ) → 120 ∷ 39 ∷ in_hex s (p ∷ x) ≡ 120 ∷ 39 ∷ in_hex t (q ∷ y) → (s ≡ t) × (p ∷ x ≡ q ∷ y)
in_hex_cut s t x y p q e =
    let quote = others_are 120 120 (39 ∷ in_hex s (p ∷ x)) (39 ∷ in_hex t (q ∷ y)) e in
    hex_cut s t x y p q (others_are 39 39 (in_hex s (p ∷ x)) (in_hex t (q ∷ y)) quote)

no_quote : (x y : List ℕ) → 39 ∷ x ≡ 120 ∷ y → ⊥
no_quote x y e = cc

shown_cut : (s t x y : List ℕ) (p q : ℕ) (k l : Bool) → is_stop p ≡ true → is_stop q ≡ true → shown k s (p ∷ x) ≡ shown l t (q ∷ y) → (s ≡ t) × (p ∷ x ≡ q ∷ y)
shown_cut s t x y p q true true f g e = in_quotes_cut s t x y p q f g e
shown_cut s t x y p q false false f g e = in_hex_cut s t x y p q e
shown_cut s t x y p q true false f g e = absurd (no_quote (inside s (p ∷ x)) (39 ∷ in_hex t (q ∷ y)) e)
shown_cut s t x y p q false true f g e = absurd (no_quote (inside t (q ∷ y)) (39 ∷ in_hex s (p ∷ x)) (sym e))

pub text_cut : (s t x y : List ℕ) (p q : ℕ) → is_stop p ≡ true → is_stop q ≡ true → bytes_text s ++ (p ∷ x) ≡ bytes_text t ++ (q ∷ y) → (s ≡ t) × (p ∷ x ≡ q ∷ y)
text_cut s t x y p q f g e =
    shown_cut s t x y p q (list_all is_printable s) (list_all is_printable t) f g (sym (text_is s (p ∷ x)) ∙ e ∙ text_is t (q ∷ y))

-- neither a number nor a stop begins as a text does
no_shown : (a : List ℕ) (p : ℕ) (x s after : List ℕ) (k : Bool) → list_all in_numeral a ≡ true → is_stop p ≡ true → a ++ (p ∷ x) ≡ shown k s after → ⊥
no_shown a p x s after true f g e = no_numeral a p 39 x (inside s after) f g refl refl e
no_shown a p x s after false f g e = no_numeral a p 120 x (39 ∷ in_hex s after) f g refl refl e

pub no_text : (a : List ℕ) (p : ℕ) (x s after : List ℕ) → list_all in_numeral a ≡ true → is_stop p ≡ true → a ++ (p ∷ x) ≡ bytes_text s ++ after → ⊥
no_text a p x s after f g e = no_shown a p x s after (list_all is_printable s) f g (e ∙ text_is s after)

-- a text does not begin as null does
pub no_n : (x s after : List ℕ) → 110 ∷ x ≡ bytes_text s ++ after → ⊥
no_n x s after e = by (list_all is_printable s) (e ∙ text_is s after)
  where
    by : (k : Bool) → 110 ∷ x ≡ shown k s after → ⊥
    by true e = let is : 110 ≡ 39 = first_is 110 39 x (inside s after) e in omega (arith, is)
    by false e = let is : 110 ≡ 120 = first_is 110 120 x (39 ∷ in_hex s after) e in omega (arith, is)

-- what follows null
pub null_rest : (x y : List ℕ) → codes "null" ++ x ≡ codes "null" ++ y → x ≡ y
null_rest x y e =
    let one = others_are 110 110 (117 ∷ 108 ∷ 108 ∷ x) (117 ∷ 108 ∷ 108 ∷ y) e in
    let two = others_are 117 117 (108 ∷ 108 ∷ x) (108 ∷ 108 ∷ y) one in
    others_are 108 108 x y (others_are 108 108 (108 ∷ x) (108 ∷ y) two)

pub cell_cut : (c d : Cell) (x y : List ℕ) (p q : ℕ) → is_cell c ≡ true → is_cell d ≡ true → is_stop p ≡ true → is_stop q ≡ true
    → cell_text c ++ (p ∷ x) ≡ cell_text d ++ (q ∷ y) → (c ≡ d) × (p ∷ x ≡ q ∷ y)
cell_cut (Num m) (Num n) x y p q f g s t e = let same = number_cut m n x y p q f g s t e in (ap Num same.0, same.1)
cell_cut (Str a) (Str b) x y p q f g s t e = let same = text_cut a b x y p q s t e in (ap Str same.0, same.1)
cell_cut (Num m) (Str b) x y p q f g s t e = absurd (no_text (number_text m) p x b (q ∷ y) (number_numeral m f) s e)
cell_cut (Str a) (Num n) x y p q f g s t e = absurd (no_text (number_text n) q y a (p ∷ x) (number_numeral n g) t (sym e))
cell_cut Null Null x y p q f g s t e = (refl, null_rest (p ∷ x) (q ∷ y) e)
cell_cut (Num m) Null x y p q f g s t e = absurd (no_numeral (number_text m) p 110 x _ (number_numeral m f) s refl refl e)
cell_cut Null (Num n) x y p q f g s t e = absurd (no_numeral (number_text n) q 110 y _ (number_numeral n g) t refl refl (sym e))
cell_cut (Str a) Null x y p q f g s t e = absurd (no_n _ a (p ∷ x) (sym e))
cell_cut Null (Str b) x y p q f g s t e = absurd (no_n _ b (q ∷ y) e)

-- a cell does not begin with a stop
pub no_cell : (c : Cell) (x y : List ℕ) (p q : ℕ) → is_cell c ≡ true → is_stop p ≡ true → is_stop q ≡ true → cell_text c ++ (p ∷ x) ≡ q ∷ y → ⊥
no_cell (Num m) x y p q f s t e = no_number m (p ∷ x) y q f t e
no_cell (Str a) x y p q f s t e = no_text [] q y a (p ∷ x) refl t (sym e)
no_cell Null x y p q f s t e =
    let is : 110 ≡ q = cc in
    let bad : is_stop 110 ≡ true = subst (λ z. is_stop z ≡ true) (sym is) t in cc
