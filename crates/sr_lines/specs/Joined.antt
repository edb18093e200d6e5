-- A bound query joins its tables by their keys.
use Rattle.std.specs.Prelude.{◌≡◌, ◌≤◌, true, List, length, Ok}
use Rattle.sr_cell.specs.declared.table.Table.{Table}
use Rattle.sr_grammar.specs.Trees as tree
use Rattle.sr_model.specs.Queries.{Query}
use Rattle.sr_query.specs.Binding.{bound_query}
use Rattle.sr_query.specs.Joined.{is_joined}

-- So does each query that a statement asks.
abbrev pub BoundAreJoined : Type 0
BoundAreJoined = (schema : List Table) (s : tree.Statement) (q : Query) → bound_query schema s ≡ Ok q → is_joined schema q ≡ true

-- of four tables at most
abbrev pub BoundHaveFewParts : Type 0
BoundHaveFewParts = (schema : List Table) (s : tree.Statement) (q : Query) → bound_query schema s ≡ Ok q → length q.parts ≤ 4
