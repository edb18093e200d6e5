-- A statement's rows, one after another.
use Rattle.std.specs.Prelude.{ℕ, ◌+◌, Bool, true, ◌&&◌, nat_lt, List, [], ◌∷◌, Option, Some, None, if◌then◌else◌}
use Rattle.sr_cell.specs.declared.table.Table.{Table}
use Rattle.sr_cell.specs.declared.fault.Fault.{Fault}
use Rattle.sr_cell.specs.declared.fault.Why.TheVariants.{TableFull, TooManyChanges}
use Rattle.sr_cell.specs.Cells.{Row}
use Rattle.sr_model.specs.SortedRows.{with_row}
use Rattle.sr_model.specs.Statements.{first_fault, fault_of_row}
use Rattle.sr_rows.specs.Places.{is_apart}

-- the first fault of the rows, the first of them being number i of its statement
abbrev pub fault_from : Table → ℕ → List Row → List Row → Option Fault
fault_from table i rows [] = None
fault_from table i rows (row ∷ more) = first_fault (fault_of_row table i rows row) (fault_from table (i + 1) (with_row table.key rows row) more)

-- why a table can't have so many rows, or a statement make so many changes
abbrev pub limit_fault : ℕ → ℕ → Option Fault
limit_fault changes count =
    if nat_lt 65536 count then Some (record { why = TableFull; at = 65536 })
    else (if nat_lt 10000 changes then Some (record { why = TooManyChanges; at = changes }) else None)

-- the key of each is apart from those of the rows before it
abbrev pub are_apart : ℕ → List Row → List Row → Bool
are_apart key rows [] = true
are_apart key rows (row ∷ more) = is_apart key rows row && are_apart key (with_row key rows row) more
