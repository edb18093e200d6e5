-- The steps of what a statement writes.
use Rattle.std.specs.Prelude.{ℕ, ◌&&◌, Bool, nat_lt, nat_le, List, length, map, Result, Ok}
use Rattle.std.specs.List.{list_all}
use Rattle.sr_cell.specs.declared.cell.Cell.{Cell}
use Rattle.sr_cell.specs.declared.table.Table.{Table}
use Rattle.sr_cell.specs.declared.fault.Fault.{Fault}
use Rattle.sr_cell.specs.Cells.{Row}
use Rattle.sr_cell.specs.Names.{table_named}
use Rattle.sr_grammar.specs.declared.statement.Insert.{Insert}
use Rattle.sr_grammar.specs.declared.statement.Literal.{Literal}
use Rattle.sr_grammar.specs.declared.statement.Set.{Set}
use Rattle.sr_grammar.specs.Trees.{Update, Delete}
use Rattle.sr_model.specs.Statements as model
use Rattle.sr_query.specs.declared.write.Place.{Place}
use Rattle.sr_query.specs.Binding.{◌>>=◌, each, column_named, column_at}
use Rattle.sr_query.specs.Writes.{table_known, listed, row_of, inserting, set_column, typed, updating, deleting}

abbrev pub cells_of : List Literal → List Cell
cells_of literals = map (λ l. l.cell) literals

-- numbers of columns of the table, which has at most twelve
abbrev pub are_columns : Table → List ℕ → Bool
are_columns t columns = nat_le (length t.columns) 12 && list_all (λ c. nat_lt c (length t.columns)) columns

-- the rows of an INSERT
abbrev pub rows_of : Table → Insert → Result (List Row) Fault
rows_of t s = listed t s.place s.columns >>= λ columns. each (row_of t columns) s.rows

abbrev pub columns_of : List Place → List ℕ
columns_of places = map (λ p. p.column) places

-- the place of one SET behind those of these columns
abbrev pub next_place : Table → List ℕ → Set → Result model.Place Fault
next_place t named s =
    set_column t named s.name.place (column_named 0 t.columns s.name.column) >>= λ c. typed (column_at t c).kind s.value >>= λ v. Ok
    (record { column = c; value = v })

-- what each kind of statement writes to its table

abbrev pub insert_bound : List Table → Insert → Result model.Write Fault
insert_bound schema s = table_known s.place (table_named schema s.table) >>= inserting schema s

abbrev pub update_bound : List Table → Update → Result model.Write Fault
update_bound schema s = table_known s.place (table_named schema s.table) >>= updating schema s

abbrev pub delete_bound : List Table → Delete → Result model.Write Fault
delete_bound schema s = table_known s.place (table_named schema s.table) >>= deleting schema s
