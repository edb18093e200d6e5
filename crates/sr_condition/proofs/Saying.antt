-- A condition is true, or false, as its members say; a test is false of what it is not true of, but of Null.
use Rattle.std.proofs.Common.{◌≡◌, ℕ, Bool, true, false, refl, sym, ◌∙◌}
use Rattle.sr_cell.specs.declared.cell.Cell.{Cell}
use Rattle.sr_model.specs.Conditions.{Conds, And, Or, truth, is_so}
use Rattle.sr_model.specs.Sides.{all_say, some_say}
use Rattle.sr_model.proofs.Sides.{and-true, and-false, or-true, or-false}

pub and-all : (plain : Bool) (value : ℕ → Cell) (cs : Conds) → plain ≡ true → all_say plain value cs ≡ is_so plain (truth value (And cs))
and-all true value cs e = sym (and-true value cs)
and-all false value cs e = absurd (cc)

pub and-some : (plain : Bool) (value : ℕ → Cell) (cs : Conds) → plain ≡ false → some_say plain value cs ≡ is_so plain (truth value (And cs))
and-some true value cs e = absurd (cc)
and-some false value cs e = sym (and-false value cs)

pub or-some : (plain : Bool) (value : ℕ → Cell) (cs : Conds) → plain ≡ true → some_say plain value cs ≡ is_so plain (truth value (Or cs))
or-some true value cs e = sym (or-true value cs)
or-some false value cs e = absurd (cc)

pub or-all : (plain : Bool) (value : ℕ → Cell) (cs : Conds) → plain ≡ false → all_say plain value cs ≡ is_so plain (truth value (Or cs))
or-all true value cs e = absurd (cc)
or-all false value cs e = sym (or-false value cs)
