-- The width of a condition: how many rects it may take.
use Rattle.std.specs.Prelude.{ℕ, Bool, true, false, not, ◌+◌, ◌*◌, min, length}
use Rattle.sr_model.specs.Conditions.{Cond, Conds, Test, Tests, And, Or, Not, none, more, Eq, Ne, Lt, Le, Gt, Ge, Between, OneOf, Prefix, IsNull}

abbrev pub capped : ℕ → ℕ
capped n = min n 65536

-- of a test, or of its contrary
abbrev pub test_width : Bool → Test → ℕ
test_width true (Eq v) = 1
test_width true (Ne v) = 2
test_width true (Lt v) = 1
test_width true (Le v) = 1
test_width true (Gt v) = 1
test_width true (Ge v) = 1
test_width true (Between a b) = 1
test_width true (OneOf vs) = length vs
test_width true (Prefix p) = 1
test_width true IsNull = 1
test_width false (Eq v) = 2
test_width false (Ne v) = 1
test_width false (Lt v) = 1
test_width false (Le v) = 1
test_width false (Gt v) = 1
test_width false (Ge v) = 1
test_width false (Between a b) = 2
test_width false (OneOf vs) = length vs + 1
test_width false (Prefix p) = 2
test_width false IsNull = 1

-- of a condition, or of its contrary: OR adds and AND multiplies, and of the contrary each does what the other does
abbrev mutual
  pub width : Bool → Cond → ℕ
  width plain (Tests c t) = capped (test_width plain t)
  width true (And cs) = product true cs
  width true (Or cs) = total true cs
  width false (And cs) = total false cs
  width false (Or cs) = product false cs
  width plain (Not c) = width (not plain) c

  pub product : Bool → Conds → ℕ
  product plain none = 1
  product plain (more c cs) = capped (width plain c * product plain cs)

  pub total : Bool → Conds → ℕ
  total plain none = 0
  total plain (more c cs) = capped (width plain c + total plain cs)
