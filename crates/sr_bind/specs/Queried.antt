-- What is left of a query once its conditions are bound.
use Rattle.std.specs.Prelude.{◌≡◌, ℕ, List, Result, Ok, Err}
use Rattle.sr_cell.specs.declared.fault.Fault.{Fault}
use Rattle.sr_cell.specs.declared.list.No.{No}
use Rattle.sr_cell.specs.declared.list.No.TheVariants.{Refused, NoMemory}
use Rattle.sr_cell.specs.declared.table.Table.{Table}
use Rattle.sr_model.specs.Queries as model
use Rattle.sr_query.specs.declared.query.Query.{Query}
use Rattle.sr_query.specs.Binding.{◌>>=◌, Bound, each, narrow, named_columns, parts_from}
use Rattle.sr_query.specs.Bound.{IsQuery}
use Rattle.sr_bind.specs.OneTable.{one_table}

-- each conjunct names one table, and no part is too wide
abbrev pub queried : List Table → List ℕ → List model.Join → List model.Output → List Bound → Result model.Query Fault
queried schema tables joins outputs bs =
    each one_table bs >>= λ _. each narrow (parts_from schema 0 tables (named_columns outputs joins bs) bs) >>= λ parts.
    Ok (record { parts = parts; joins = joins; outputs = outputs })

-- a query that stands for what is decided, or the same fault; memory may run out
abbrev pub Asks : List Table → Result Query (No Fault) → Result model.Query Fault → Type 0
Asks schema (Ok q) decided = (meaning : model.Query) × (decided ≡ Ok meaning) × IsQuery schema q meaning
Asks schema (Err (Refused fault)) decided = decided ≡ Err fault
Asks schema (Err NoMemory) decided = Unit {0}
