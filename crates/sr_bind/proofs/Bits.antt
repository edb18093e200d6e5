-- A bit that is not set has room.
use Rattle.std.proofs.Common.{◌≡◌, ℕ, ◌+◌, ◌-◌, ◌*◌, ◌/◌, ◌%◌, ◌^◌, ◌<◌, ◌≤◌, false, sym, ap, ◌∙◌, arith}
use Rattle.std.proofs.Math.Nat.{lt_of_mul-lt-mul_right, mul-le-mul_right, mod-lt}
use Rattle.std.proofs.Math.Pow.{split}
use Rattle.std.proofs.lemmas.Nat.{pow-add, pow_pos}
use Rattle.std.proofs.lemmas.Bool.Decides.{nat_tests}
use Rattle.sr_cell.specs.Attrs.{has_column}

room : (d q r m all attrs : ℕ) → q * d + r ≡ attrs → r < d → attrs < all → all ≡ m * d → q % 2 ≡ 0 → m % 2 ≡ 0 → attrs + d < all
room d q r m all attrs is small below e even whole =
    let less : q < m = lt_of_mul-lt-mul_right d (omega arith) in
    let two : q + 2 ≤ m = omega arith in
    let high = mul-le-mul_right d two in
    omega (arith, high)

pub bit_room : (c attrs : ℕ) → c < 16 → attrs < 65536 → has_column attrs c ≡ false → attrs + 2 ^ c < 65536
bit_room c attrs within below free =
    let even : (attrs / 2 ^ c) % 2 ≡ 0 = grind (arith, nat_tests) in
    let sum : (15 - c) + 1 + c ≡ 16 = omega arith in
    let whole : 65536 ≡ 2 ^ (15 - c) * 2 * 2 ^ c = ap (λ k. 2 ^ k) (sym sum) ∙ pow-add 2 ((15 - c) + 1) c ∙ ap (λ x. x * 2 ^ c) (pow-add 2 (15 - c) 1) in
    room (2 ^ c) (attrs / 2 ^ c) (attrs % 2 ^ c) (2 ^ (15 - c) * 2) 65536 attrs (split attrs c) (mod-lt attrs (pow_pos c)) below whole even (omega arith)
