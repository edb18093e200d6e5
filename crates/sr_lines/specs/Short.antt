-- Conditions of short texts, and how long the texts are at which their tests begin and end.
use Rattle.std.specs.Prelude.{◌≡◌, ℕ, ◌&&◌, Bool, true, nat_le, length}
use Rattle.std.specs.List.{list_all}
use Rattle.sr_cell.specs.declared.cell.Cell.{Cell}
use Rattle.sr_cell.specs.declared.cell.Cell.TheVariants.{Num, Str, Null}
use Rattle.sr_model.specs.Conditions.{Cond, Conds, Test, Tests, And, Or, Not, none, more, Eq, Ne, Lt, Le, Gt, Ge, Between, OneOf, Prefix, IsNull}
use Rattle.sr_model.specs.Ends.{ends}

-- a number, a text of at most so many bytes, or Null
abbrev pub is_short : ℕ → Cell → Bool
is_short most (Num n) = true
is_short most (Str s) = nat_le (length s) most
is_short most Null = true

-- what a table may hold is compared
abbrev pub compares_short : Test → Bool
compares_short (Eq v) = is_short 120 v
compares_short (Ne v) = is_short 120 v
compares_short (Lt v) = is_short 120 v
compares_short (Le v) = is_short 120 v
compares_short (Gt v) = is_short 120 v
compares_short (Ge v) = is_short 120 v
compares_short (Between a b) = is_short 120 a && is_short 120 b
compares_short (OneOf vs) = list_all (is_short 120) vs
compares_short (Prefix p) = nat_le (length p) 120
compares_short IsNull = true

abbrev mutual
  pub has_short_texts : Cond → Bool
  has_short_texts (Tests c t) = compares_short t
  has_short_texts (And cs) = have_short_texts cs
  has_short_texts (Or cs) = have_short_texts cs
  has_short_texts (Not c) = has_short_texts c

  pub have_short_texts : Conds → Bool
  have_short_texts none = true
  have_short_texts (more c cs) = has_short_texts c && have_short_texts cs

-- its tests begin and end at most one byte later
abbrev pub EndsAreShort : Type 0
EndsAreShort = (c : ℕ) (condition : Cond) → has_short_texts condition ≡ true → list_all (is_short 121) (ends c condition) ≡ true
