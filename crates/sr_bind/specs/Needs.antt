-- The columns that a part needs.
use Rattle.std.specs.Prelude.{ℕ, ◌&&◌, Bool, List, map, flat_map, nat_lt}
use Rattle.std.specs.List.{list_all}
use Rattle.sr_model.specs.Queries.{Output, Join}
use Rattle.sr_query.specs.Binding.{Bound, references, join_columns}

-- the columns that conditions name
abbrev pub compared_columns : List Bound → List Output
compared_columns bs = map (λ r. r.1) (flat_map references bs)

-- a column of a table is one of its first twelve
abbrev pub is_low : Output → Bool
is_low o = nat_lt o.column 12

-- the joined part is one of so many
abbrev pub is_joined : ℕ → Join → Bool
is_joined parts j = nat_lt j.right parts

-- it joins one of so many parts, and both its columns are such
abbrev pub is_near_join : ℕ → Join → Bool
is_near_join parts j = is_joined parts j && list_all is_low (join_columns j)
