-- Conditions whose tests suit the columns of a table.
use Rattle.std.specs.Prelude.{◌&&◌, Bool, true, nat_lt, length}
use Rattle.std.specs.List.{list_all}
use Rattle.sr_cell.specs.declared.cell.Cell.{Cell}
use Rattle.sr_cell.specs.declared.table.Kind.{Kind}
use Rattle.sr_cell.specs.declared.table.Table.{Table}
use Rattle.sr_query.specs.Binding.{is_of, is_inside, column_at}
use Rattle.sr_model.specs.Conditions.{Cond, Conds, Test, Tests, And, Or, Not, none, more, Eq, Ne, Lt, Le, Gt, Ge, Between, OneOf, Prefix, IsNull}

abbrev pub cell_suits : Kind → Cell → Bool
cell_suits kind v = is_of kind v && is_inside v

-- the test's values are of the kind, and inside
abbrev pub test_suits : Kind → Test → Bool
test_suits kind (Eq v) = cell_suits kind v
test_suits kind (Ne v) = cell_suits kind v
test_suits kind (Lt v) = cell_suits kind v
test_suits kind (Le v) = cell_suits kind v
test_suits kind (Gt v) = cell_suits kind v
test_suits kind (Ge v) = cell_suits kind v
test_suits kind (Between a b) = cell_suits kind a && cell_suits kind b
test_suits kind (OneOf vs) = list_all (cell_suits kind) vs
test_suits kind (Prefix p) = true
test_suits kind IsNull = true

-- each test is of a column of the table, and suits it
abbrev mutual
  pub suits : Table → Cond → Bool
  suits table (Tests c t) = nat_lt c (length table.columns) && test_suits (column_at table c).kind t
  suits table (And cs) = all_suit table cs
  suits table (Or cs) = all_suit table cs
  suits table (Not c) = suits table c

  pub all_suit : Table → Conds → Bool
  all_suit table none = true
  all_suit table (more c cs) = suits table c && all_suit table cs
