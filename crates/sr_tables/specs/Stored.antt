-- What contracts see of tables with their rows.
use Rattle.std.specs.Prelude.{◌≡◌, ℕ, ◌&&◌, ◌^◌, Bool, true, false, nat_le, nat_lt, List, [], ◌∷◌, map, length, Result, IsTrue}
use Rattle.std.specs.List.{list_all}
use Rattle.sr_cell.specs.declared.table.Table.{Table}
use Rattle.sr_cell.specs.declared.fault.Fault.{Fault}
use Rattle.sr_cell.specs.Cells.{Row}
use Rattle.sr_cell.specs.Columns.{fits_columns, table_at}
use Rattle.sr_grammar.specs.Trees as tree
use Rattle.sr_model.specs.Queries.{rows_at}
use Rattle.sr_model.specs.SortedRows.{ascend}
use Rattle.sr_model.specs.Statements.{Tables, Write, Insert, Update, Delete, column_of, with_table, executed}
use Rattle.sr_model.specs.Loads.{row_loaded}
use Rattle.sr_query.specs.Binding.{◌>>=◌}
use Rattle.sr_query.specs.Writes.{bound_write}
use Rattle.sr_keyed.specs.Keyed.{Keyed}

-- the tables of a schema, and the rows of each by key ascending
pub record Stored : Type 0 where
  pub schema : List Table
  pub rows : Tables

-- rows of the table: by its key, and each fits it
pub record IsKeyed (t : Table) (k : Keyed) : Type 0 where
  pub key : k.key ≡ t.key
  pub kind : k.kind ≡ (column_of t t.key).kind
  pub fits : IsTrue (list_all (fits_columns t.columns) k.rows)

abbrev pub rows_in : List Keyed → Tables
rows_in all = map (λ (k : Keyed). k.rows) all

-- rows that fit the table, by key ascending, as many as a table may have
abbrev pub are_rows : Table → List Row → Bool
are_rows t rows = ascend t.key rows && list_all (fits_columns t.columns) rows && nat_le (length rows) 65536

-- each table has as many rows as it may have
abbrev pub are_few : Tables → Bool
are_few tables = list_all (λ rows. nat_le (length rows) 65536) tables

-- such a list of rows for each table
abbrev pub are_stored : List Table → Tables → Bool
are_stored [] [] = true
are_stored [] (rows ∷ others) = false
are_stored (t ∷ tables) [] = false
are_stored (t ∷ tables) (rows ∷ others) = are_rows t rows && are_stored tables others

abbrev pub no_rows : List Table → Tables
no_rows schema = map (λ t. []) schema

-- the tables with a row more in one of them, or why it can't be loaded
abbrev pub with_loaded : List Table → ℕ → Row → Tables → Result Tables Fault
with_loaded schema t row tables = with_table tables t (row_loaded (table_at schema t) row (rows_at tables t))

-- the rows of an INSERT can be counted in 32 bits, as a fault counts them
abbrev pub is_short : Write → Bool
is_short (Insert t rows) = nat_lt (length rows) (2 ^ 32)
is_short (Update t places c) = true
is_short (Delete t c) = true

abbrev pub statement_is_short : tree.Statement → Bool
statement_is_short (tree.Create t) = true
statement_is_short (tree.Selects s) = true
statement_is_short (tree.Inserts s) = nat_lt (length s.rows) (2 ^ 32)
statement_is_short (tree.Updates s) = true
statement_is_short (tree.Deletes s) = true

-- the tables after a statement, or its first refusal: of what it says, or of what it does
abbrev pub done_by : List Table → tree.Statement → Tables → Result Tables Fault
done_by schema s tables = bound_write schema s >>= λ write. executed schema write tables
