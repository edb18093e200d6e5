-- What is known of the tables of a query.
use Rattle.std.specs.Prelude.{ℕ, ◌&&◌, Bool, nat_lt, nat_le, List, length}
use Rattle.std.specs.List.{list_all}
use Rattle.sr_cell.specs.declared.table.Table.{Table}
use Rattle.sr_model.specs.Queries as model
use Rattle.sr_query.specs.Binding.{table_of_part}
use Rattle.sr_query.specs.Bound.{is_table}

-- the tables of a schema, and at most four of their numbers
abbrev pub are_known : List Table → List ℕ → Bool
are_known schema tables = list_all is_table schema && (nat_le (length tables) 4 && list_all (λ t. nat_lt t (length schema)) tables)

-- a column of a part of the query
abbrev pub is_within : List Table → List ℕ → model.Output → Bool
is_within schema tables o = nat_lt o.part (length tables) && nat_lt o.column (length (table_of_part schema tables o.part).columns)
