-- Parts that are not too wide.
use Rattle.std.specs.Prelude.{◌≡◌, ℕ, ◌^◌, List, Result, Ok, Err}
use Rattle.std.specs.List.{AllZip}
use Rattle.sr_cell.specs.declared.fault.Fault.{Fault}
use Rattle.sr_cell.specs.declared.list.No.{No}
use Rattle.sr_cell.specs.declared.list.No.TheVariants.{Refused, NoMemory}
use Rattle.sr_cell.specs.declared.table.Table.{Table}
use Rattle.sr_cell.specs.Columns.{table_at}
use Rattle.sr_model.specs.Conditions.{Cond}
use Rattle.sr_model.specs.Queries as model
use Rattle.sr_query.specs.declared.query.Part.{Part}
use Rattle.sr_query.specs.Binding.{each, narrow, needed}
use Rattle.sr_query.specs.Bound.{IsPart}

-- the part of that number, with a condition on its table
abbrev pub part_with : List Table → ℕ → ℕ → List model.Output → Cond → model.Part
part_with schema part t columns condition = record { table = t; need = needed part columns (2 ^ (table_at schema t).key); condition = condition }

-- the part, which is not too wide, or its fault; memory may run out
abbrev pub IsNarrow : List Table → Result Part (No Fault) → model.Part → Type 0
IsNarrow schema (Ok p) meaning = (narrow meaning ≡ Ok meaning) × IsPart schema p meaning
IsNarrow schema (Err (Refused fault)) meaning = narrow meaning ≡ Err fault
IsNarrow schema (Err NoMemory) meaning = Unit {0}

-- the same of all parts
abbrev pub AreNarrow : List Table → Result (List Part) (No Fault) → List model.Part → Type 0
AreNarrow schema (Ok ps) meanings = (each narrow meanings ≡ Ok meanings) × AllZip (IsPart schema) ps meanings
AreNarrow schema (Err (Refused fault)) meanings = each narrow meanings ≡ Err fault
AreNarrow schema (Err NoMemory) meanings = Unit {0}
