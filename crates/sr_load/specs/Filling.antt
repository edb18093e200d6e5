-- Files that are loaded into the tables of a schema, one after another.
use Rattle.std.specs.Prelude.{ℕ, List, [], ◌∷◌, Option, Some, None, Result, Ok, Err}
use Rattle.sr_cell.specs.declared.table.Table.{Table}
use Rattle.sr_cell.specs.declared.fault.Fault.{Fault}
use Rattle.sr_cell.specs.declared.fault.Why.TheVariants.{UnknownTable}
use Rattle.sr_cell.specs.Columns.{table_at}
use Rattle.sr_cell.specs.Names.{table_named}
use Rattle.sr_model.specs.Queries.{rows_at}
use Rattle.sr_model.specs.Statements.{Tables, with_table}
use Rattle.sr_model.specs.Loads.{rows_loaded}
use Rattle.sr_query.specs.Binding.{fault, ◌>>=◌}
use Rattle.sr_load.specs.Loading.{loaded}
use Rattle.sr_load.specs.declared.fill.Load.{Load}
use Rattle.sr_load.specs.declared.fill.LoadFault.{LoadFault}

-- the rows of a file go into this table, beside those that are there; the whole file is read first
abbrev pub into_table : List Table → List ℕ → Tables → Option ℕ → Result Tables Fault
into_table schema bytes tables None = fault UnknownTable 0
into_table schema bytes tables (Some t) =
    loaded (table_at schema t) bytes >>= λ rows. with_table tables t (rows_loaded (table_at schema t) 1 rows (rows_at tables t))

abbrev pub with_file : List Table → Load → Tables → Result Tables Fault
with_file schema load tables = into_table schema load.bytes tables (table_named schema load.table)

-- the tables, or the fault of the file for the table of this name
abbrev pub of_file : List ℕ → Result Tables Fault → (Tables → Result Tables LoadFault) → Result Tables LoadFault
of_file name (Err fault) next = Err (record { table = name; fault = fault })
of_file name (Ok tables) next = next tables

-- the tables after all files, or the first file that is refused
abbrev pub filled : List Table → List Load → Tables → Result Tables LoadFault
filled schema [] tables = Ok tables
filled schema (load ∷ loads) tables = of_file load.table (with_file schema load tables) (filled schema loads)
