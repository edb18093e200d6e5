-- The ends of a condition: the places where a test of a column as a whole becomes true or false as the value rises, and the place before
-- Null.
use Rattle.std.specs.Prelude.{ℕ, pos, ◌+ℤ◌, ◌==◌, not, List, [], ◌∷◌, ◌++◌, map, filter, Option, Some, None, if◌then◌else◌}
use Rattle.std.specs.List.{list_any}
use Rattle.sr_cell.specs.declared.cell.Cell.{Cell}
use Rattle.sr_cell.specs.declared.cell.Cell.TheVariants.{Num, Str, Null}
use Rattle.sr_cell.specs.Cells.{cell_le, cell_eq}
use Rattle.sr_box.specs.Prefixes.{next_prefix}
use Rattle.sr_model.specs.Conditions.{Cond, Conds, Test, Tests, And, Or, Not, none, more, Eq, Ne, Lt, Le, Gt, Ge, Between, OneOf, Prefix, IsNull}

-- the least value above this one; the least text above s is s and a byte 0; nothing is above Null
abbrev pub next_value : Cell → Cell
next_value (Num n) = Num (n +ℤ pos 1)
next_value (Str s) = Str (s ++ 0 ∷ [])
next_value Null = Null

abbrev pub next_text : Option (List ℕ) → List Cell
next_text None = []
next_text (Some s) = Str s ∷ []

-- the values that are none of the others
abbrev pub values_without : List Cell → List Cell → List Cell
values_without values others = filter (λ v. not (list_any (cell_eq v) others)) values

-- a run of values one next to another begins at the one that is next to none, and ends at the next value that is none of them
abbrev pub run_ends : List Cell → List Cell → List Cell
run_ends values nexts = values_without values nexts ++ values_without nexts values

-- of BETWEEN none where the second value lies below the first
abbrev pub test_ends : Test → List Cell
test_ends (Eq v) = v ∷ next_value v ∷ []
test_ends (Ne v) = v ∷ next_value v ∷ []
test_ends (Lt v) = v ∷ []
test_ends (Le v) = next_value v ∷ []
test_ends (Gt v) = next_value v ∷ []
test_ends (Ge v) = v ∷ []
test_ends (Between a b) = if cell_le a b then a ∷ next_value b ∷ [] else []
test_ends (OneOf vs) = run_ends vs (map next_value vs)
test_ends (Prefix p) = Str p ∷ next_text (next_prefix p)
test_ends IsNull = []

-- a tested column parts at the ends of the test, and before Null; where it is not nullable, Null is no place of it
abbrev pub places_of : Test → List Cell
places_of t = Null ∷ test_ends t

-- the ends of column c: the places of its tests
abbrev mutual
  pub ends : ℕ → Cond → List Cell
  ends c (Tests column t) = if column == c then places_of t else []
  ends c (And cs) = all_ends c cs
  ends c (Or cs) = all_ends c cs
  ends c (Not d) = ends c d

  pub all_ends : ℕ → Conds → List Cell
  all_ends c none = []
  all_ends c (more d ds) = ends c d ++ all_ends c ds
