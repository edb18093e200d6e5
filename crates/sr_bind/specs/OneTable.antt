-- To which part a condition refers.
use Rattle.std.specs.Prelude.{ℕ, Bool, List, Result, map}
use Rattle.sr_cell.specs.declared.fault.Fault.{Fault}
use Rattle.sr_query.specs.Binding.{Bound, references, names_one, is_of_part}

-- the references of a condition are all to one part
abbrev pub one_table : Bound → Result (Unit {0}) Fault
one_table b = names_one (references b)

-- each of them does
abbrev pub done : List Bound → List (Unit {0})
done bs = map (λ b. tt) bs

-- the condition is on that part
abbrev pub is_on : ℕ → Bound → Bool
is_on part b = is_of_part part (references b)
