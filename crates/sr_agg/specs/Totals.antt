-- A sum, and of how many numbers it is.
use Rattle.std.specs.Prelude.{ℕ, ℤ, pos, ◌+ℤ◌, ◌+◌, ◌*◌, ◌≤◌, unsigned_abs}

pub record Total : Type 0 where
  pub sum : ℤ
  pub count : ℕ

abbrev pub none_yet : Total
none_yet = record { sum = pos 0; count = 0 }

abbrev pub with_number : Total → ℤ → Total
with_number total n = record { sum = total.sum +ℤ n; count = total.count + 1 }

-- as far from zero as so many numbers of 64 bits can bring a sum
abbrev pub IsNear : Total → Type 0
IsNear total = unsigned_abs total.sum ≤ 9223372036854775808 * total.count
