-- The parts of a line, and the numbers that they write.
use Rattle.std.proofs.Common.{◌≡◌, ℕ, suc, ◌+◌, ◌<◌, ◌^◌, Bool, true, false, List, [], ◌∷◌, length, take, drop, refl, ap, subst, ◌∙◌, arith, one-add, leb-true}
use Rattle.std.specs.Prelude.{◌==◌, ◌&&◌, nat_le, Option, Some, None, Result, Ok, Err, if◌then◌else◌}
use Rattle.std.specs.Char.{is_ascii_digit}
use Rattle.std.specs.List.{list_all, position_or_len}
use Rattle.std.specs.Result.{OkIff, result_ok}
use Rattle.std.specs.Str.{all_ascii_digits}
use Rattle.std.specs.Str.Parse.{ParsesUnsigned, digits_value}
use denote.Ref.{Bor}
use Rattle.std.proofs.lemmas.Str.Parse.{parse_digits, numerals_by_value, digits_value_short, tells_all_ascii_digits}
use Rattle.std.proofs.lemmas.Str.Pattern.{IsSplitOnceResult, split_once_first}
use Rattle.std.proofs.lemmas.Bool.{and_right}
use Rattle.sr_lines.specs.Parts.{is_client}
use Rattle.sr_lines.specs.Script.{part_of, behind, are_digits, client_number, place_number}

-- ---- the cut at the first space

two_more : (n : ℕ) → 1 + n + 1 ≡ suc (n + 1)
two_more n = omega arith

cut_part : (line : List ℕ) → take (position_or_len (λ b. b == 32) line) line ≡ part_of line
cut_part [] = refl
cut_part (b ∷ line) = by (b == 32) refl (cut_part line)
  where
    by : (x : Bool) → (b == 32) ≡ x → take (position_or_len (λ b. b == 32) line) line ≡ part_of line → take (position_or_len (λ b. b == 32) (b ∷ line)) (b ∷ line) ≡ part_of (b ∷ line)
    by true is more = rw is refl
    by false is more = rw (is, one-add (position_or_len (λ b. b == 32) line)) (ap (λ z. b ∷ z) more)

cut_behind : (line : List ℕ) → drop (position_or_len (λ b. b == 32) line + 1) line ≡ behind line
cut_behind [] = refl
cut_behind (b ∷ line) = by (b == 32) refl (cut_behind line)
  where
    by : (x : Bool) → (b == 32) ≡ x → drop (position_or_len (λ b. b == 32) line + 1) line ≡ behind line → drop (position_or_len (λ b. b == 32) (b ∷ line) + 1) (b ∷ line) ≡ behind (b ∷ line)
    by true is more = rw is refl
    by false is more = rw (is, two_more (position_or_len (λ b. b == 32) line)) more

no_space : (line : List ℕ) → position_or_len (λ b. b == 32) line ≡ length line → (line ≡ part_of line) × ([] ≡ behind line)
no_space [] none = (refl, refl)
no_space (b ∷ line) none = by (b == 32) refl none (no_space line)
  where
    by : (x : Bool) → (b == 32) ≡ x → position_or_len (λ b. b == 32) (b ∷ line) ≡ length (b ∷ line) → (position_or_len (λ b. b == 32) line ≡ length line → (line ≡ part_of line) × ([] ≡ behind line))
        → (b ∷ line ≡ part_of (b ∷ line)) × ([] ≡ behind (b ∷ line))
    by true is none more = absurd (let e = rw is at none in omega (arith, e))
    by false is none more =
        let e = rw is at none in
        let p = more (omega (arith, e)) in
        rw is (ap (λ z. b ∷ z) p.0, p.1)

pub split_some : (line : List ℕ) (r : Option (Bor (List ℕ) × Bor (List ℕ))) (x : Bor (List ℕ) × Bor (List ℕ)) → IsSplitOnceResult 32 line r → r ≡ Some x → (x.0.now ≡ part_of line) × (x.1.now ≡ behind line)
split_some line r x split is =
    let p = rw is at (split_once_first 32 line r split (omega arith)) in
    (p.1 ∙ cut_part line, p.2 ∙ cut_behind line)

pub split_none : (line : List ℕ) (r : Option (Bor (List ℕ) × Bor (List ℕ))) → IsSplitOnceResult 32 line r → r ≡ None → (line ≡ part_of line) × ([] ≡ behind line)
split_none line r split is = no_space line (rw is at (split_once_first 32 line r split (omega arith)))

-- ---- numbers

same_digits : (ds : List ℕ) → all_ascii_digits ds ≡ list_all is_ascii_digit ds
same_digits [] = refl
same_digits (d ∷ ds) = ap (λ z. is_ascii_digit d && z) (same_digits ds)

digit_parts : (a b c : Bool) → (a && b && c) ≡ true → (a ≡ true) × (b ≡ true) × (c ≡ true)
digit_parts true true true is = (refl, refl, refl)
digit_parts true true false is = absurd cc
digit_parts true false c is = absurd cc
digit_parts false b c is = absurd cc

-- what `parse` makes of digits
parsed : {E : Type 0} (k most : ℕ) (part : List ℕ) (r : Result ℕ E) → ParsesUnsigned k 10 part r → are_digits most part ≡ true → OkIff r ((0 < length part) × (digits_value 10 part < 2 ^ k)) (digits_value 10 part)
parsed k most part r parses are =
    let p = digit_parts (nat_le 1 (length part)) (nat_le (length part) most) (list_all is_ascii_digit part) are in
    parse_digits (numerals_by_value (λ ds. all_ascii_digits ds ≡ true) tells_all_ascii_digits) k part r parses (same_digits part ∙ p.2)

long_enough : (most : ℕ) (part : List ℕ) → are_digits most part ≡ true → 0 < length part
long_enough most part are =
    let p = digit_parts (nat_le 1 (length part)) (nat_le (length part) most) (list_all is_ascii_digit part) are in
    leb-true 1 (length part) p.0

is_small : (most : ℕ) (part : List ℕ) → are_digits most part ≡ true → digits_value 10 part < 10 ^ most
is_small most part are =
    let p = digit_parts (nat_le 1 (length part)) (nat_le (length part) most) (list_all is_ascii_digit part) are in
    digits_value_short (numerals_by_value (λ ds. all_ascii_digits ds ≡ true) tells_all_ascii_digits) part most (same_digits part ∙ p.2) (leb-true (length part) most p.1)

too_large : (clients v : ℕ) → clients < 256 → (v < 256 → ⊥) → nat_le v clients ≡ false
too_large clients v few large = by (nat_le v clients) refl
  where
    by : (b : Bool) → nat_le v clients ≡ b → nat_le v clients ≡ false
    by true is = absurd (large (let h = leb-true v clients is in omega arith))
    by false is = is

pub client_err : {E : Type 0} (clients : ℕ) (part : List ℕ) (r : Result ℕ E) (e : E) → clients < 256 → are_digits 3 part ≡ true → ParsesUnsigned 8 10 part r → r ≡ Err e → None ≡ client_number clients part
client_err clients part r e few are parses is =
    let never = rw is at (parsed 8 3 part r parses are) in
    let v = digits_value 10 part in
    let large : nat_le v clients ≡ false = too_large clients v few (λ small. never (long_enough 3 part are, small)) in
    rw (and_right (are_digits 3 part && nat_le 1 v) (nat_le v clients) large) refl

pub client_ok : {E : Type 0} (part : List ℕ) (r : Result ℕ E) (n : ℕ) → are_digits 3 part ≡ true → ParsesUnsigned 8 10 part r → r ≡ Ok n → n ≡ digits_value 10 part
client_ok part r n are parses is = (rw is at (parsed 8 3 part r parses are)).1

-- the number is one of a client
pub client_some : (clients : ℕ) (part : List ℕ) (n : ℕ) → are_digits 3 part ≡ true → n ≡ digits_value 10 part → is_client clients n ≡ true → Some n ≡ client_number clients part
client_some clients part n are same is =
    let here : is_client clients (digits_value 10 part) ≡ true = subst (λ z. is_client clients z ≡ true) same is in
    of (are_digits 3 part) (nat_le 1 (digits_value 10 part)) (nat_le (digits_value 10 part) clients) are here
  where
    of : (a b c : Bool) → a ≡ true → (b && c) ≡ true → Some n ≡ (if a && b && c then Some (digits_value 10 part) else None)
    of true true true are is = ap (λ z. Some z) same
    of true true false are is = absurd cc
    of true false c are is = absurd cc
    of false b c are is = absurd cc

pub client_none : (clients : ℕ) (part : List ℕ) (n : ℕ) → n ≡ digits_value 10 part → is_client clients n ≡ false → None ≡ client_number clients part
client_none clients part n same is =
    let here : is_client clients (digits_value 10 part) ≡ false = subst (λ z. is_client clients z ≡ false) same is in
    of (are_digits 3 part) (nat_le 1 (digits_value 10 part)) (nat_le (digits_value 10 part) clients) here
  where
    of : (a b c : Bool) → (b && c) ≡ false → None ≡ (if a && b && c then Some (digits_value 10 part) else None)
    of true true true is = absurd cc
    of true true false is = refl
    of true false c is = refl
    of false b c is = refl

pub place_read : {E : Type 0} (part : List ℕ) (r : Result ℕ E) → are_digits 9 part ≡ true → ParsesUnsigned 32 10 part r → result_ok r ≡ place_number part
place_read {E} part (Ok n) are parses = rw are (ap (λ z. Some z) (parsed {E = E} 32 9 part (Ok n) parses are).1)
place_read {E} part (Err e) are parses = absurd (parsed 32 9 part (Err e) parses are (long_enough 9 part are, let h = is_small 9 part are in omega (arith, h)))
