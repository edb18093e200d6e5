-- Numbers of columns of a table.
use Rattle.std.specs.Prelude.{◌≡◌, ℕ, nat_lt, Bool, true, List, length, Option, Some, None}
use Rattle.std.specs.List.{list_all}
use Rattle.sr_cell.specs.declared.table.Table.{Table}

abbrev pub are_within : Table → List ℕ → Bool
are_within t columns = list_all (λ c. nat_lt c (length t.columns)) columns

-- the same of numbers, if there are any
abbrev pub AreWithin : Table → Option (List ℕ) → Type 0
AreWithin t None = Unit {0}
AreWithin t (Some columns) = are_within t columns ≡ true
