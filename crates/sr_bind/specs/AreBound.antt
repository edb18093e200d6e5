-- Bound conditions whose tests suit their columns.
use Rattle.std.specs.Prelude.{ℕ, ◌&&◌, Bool, true, List}
use Rattle.sr_cell.specs.declared.table.Table.{Table}
use Rattle.sr_query.specs.Binding.{Bound, Bounds, Testing, Conjunction, Disjunction, Negation, no_more, one_more, column_of}
use Rattle.sr_resolve.specs.Known.{is_within}
use Rattle.sr_condition.specs.Suits.{test_suits}

-- each test is of a column of a table of the query, and suits it
abbrev mutual
  pub are_bound : List Table → List ℕ → Bound → Bool
  are_bound schema tables (Testing place o t) = is_within schema tables o && test_suits (column_of schema tables o).kind t
  are_bound schema tables (Conjunction bs) = all_are_bound schema tables bs
  are_bound schema tables (Disjunction bs) = all_are_bound schema tables bs
  are_bound schema tables (Negation b) = are_bound schema tables b

  pub all_are_bound : List Table → List ℕ → Bounds → Bool
  all_are_bound schema tables no_more = true
  all_are_bound schema tables (one_more b bs) = are_bound schema tables b && all_are_bound schema tables bs
