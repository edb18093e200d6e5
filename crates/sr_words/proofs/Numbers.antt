-- How many digits a value has.
use Rattle.std.proofs.Common.{◌≡◌, ℕ, ◌≤◌, true, List, length, arith}
use Rattle.std.specs.Prelude.{◌&&◌, nat_le}
use Rattle.std.specs.List.{list_all}
use Rattle.std.specs.Char.{is_ascii_digit}
use Rattle.std.proofs.lemmas.Bool.{and_parts}
use Rattle.std.proofs.lemmas.Bool.Decides.{nat_tests}
use Rattle.sr_words.specs.Words.{are_digits}

pub few_digits : (ds : List ℕ) → are_digits ds ≡ true → length ds ≤ 20
few_digits ds e =
    let x = (and_parts (nat_le 1 (length ds) && nat_le (length ds) 20) (list_all is_ascii_digit ds) e).0 in
    let y = (and_parts (nat_le 1 (length ds)) (nat_le (length ds) 20) x).1 in
    grind (arith, nat_tests, y)

pub each_digit : (ds : List ℕ) → are_digits ds ≡ true → list_all is_ascii_digit ds ≡ true
each_digit ds e = (and_parts (nat_le 1 (length ds) && nat_le (length ds) 20) (list_all is_ascii_digit ds) e).1
