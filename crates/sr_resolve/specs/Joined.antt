-- What a join stands for: its key is that of the right part's table.
use Rattle.std.specs.Prelude.{ℕ, List}
use Rattle.sr_cell.specs.declared.table.Table.{Table}
use Rattle.sr_model.specs.Queries as model
use Rattle.sr_query.specs.Binding.{table_of_part}
use Rattle.sr_query.specs.declared.query.KeyJoin.{KeyJoin}

abbrev pub join_of : List Table → List ℕ → KeyJoin → model.Join
join_of schema tables j = record { left = j.left; column = j.column; right = j.right; key = (table_of_part schema tables j.right).key }
