-- A bound query needs no columns but those of its tables.
use Rattle.std.specs.Prelude.{◌≡◌, ◌^◌, ◌/◌, ◌==◌, Bool, true, List, length, Ok}
use Rattle.std.specs.List.{list_all}
use Rattle.sr_cell.specs.declared.table.Table.{Table}
use Rattle.sr_cell.specs.Columns.{table_at}
use Rattle.sr_grammar.specs.Trees as tree
use Rattle.sr_model.specs.Queries.{Part, Query}
use Rattle.sr_query.specs.Binding.{bound_query}
use Rattle.sr_query.specs.Bound.{is_table}

-- the part needs no columns but its table's
abbrev pub part_needs_own : List Table → Part → Bool
part_needs_own schema part = part.need / 2 ^ length (table_at schema part.table).columns == 0

abbrev pub needs_own : List Table → Query → Bool
needs_own schema q = list_all (part_needs_own schema) q.parts

-- so does each part of each query that a statement asks of tables that a schema takes
abbrev pub BoundNeedOwn : Type 0
BoundNeedOwn = (schema : List Table) (s : tree.Statement) (q : Query) → list_all is_table schema ≡ true → bound_query schema s ≡ Ok q
    → needs_own schema q ≡ true
