-- Statements that change tables, and their refusals.
use Rattle.std.specs.Prelude.{ℕ, ℤ, pos, Bool, true, false, not, List, [], ◌∷◌, length, map, filter, Option, Some, None, Result, Ok, Err, ◌+◌, nat_lt, int_le, ◌&&◌, if◌then◌else◌, slice_set, slice_index_or}
use Rattle.sr_cell.specs.declared.cell.Cell.{Cell}
use Rattle.sr_cell.specs.declared.cell.Cell.TheVariants.{Num, Str, Null}
use Rattle.sr_cell.specs.declared.table.Kind.{Kind}
use Rattle.sr_cell.specs.declared.table.Kind.TheVariants.{Num as Numbers, Str as Texts}
use Rattle.sr_cell.specs.declared.table.Column.{Column}
use Rattle.sr_cell.specs.declared.table.Table.{Table}
use Rattle.sr_cell.specs.declared.fault.Fault.{Fault}
use Rattle.sr_cell.specs.declared.fault.Why.TheVariants.{DuplicateKey, NullCell, DomainCell, LongCell, TableFull, TooManyChanges}
use Rattle.sr_cell.specs.Cells.{Row, cell_at}
use Rattle.sr_cell.specs.Columns.{table_at}
use Rattle.sr_model.specs.Conditions.{Cond, is_true}
use Rattle.sr_model.specs.Queries.{rows_at}
use Rattle.sr_model.specs.SortedRows.{has_key, with_row, row_eq}

-- the tables' rows, each list by key ascending
abbrev pub Tables : Type 0
Tables = List (List Row)

-- a new value of a column
pub record Place : Type 0 where
  pub column : ℕ
  pub value : Cell

-- A statement that is bound to the tables of a schema. Without a condition it is about each row.
pub data Write : Type 0 where
  Insert : (table : ℕ) → (rows : List Row) → Write
  Update : (table : ℕ) → (places : List Place) → (condition : Option Cond) → Write
  Delete : (table : ℕ) → (condition : Option Cond) → Write

-- why a value can't stand in column number c; of a text only its length is judged
abbrev pub cell_fault : Kind → ℤ → ℤ → Bool → ℕ → Cell → Option Fault
cell_fault k low high nullable c Null = if nullable then None else Some (record { why = NullCell; at = c })
cell_fault Numbers low high nullable c (Num n) = if int_le low n && int_le n high then None else Some (record { why = DomainCell; at = c })
cell_fault Numbers low high nullable c (Str s) = Some (record { why = DomainCell; at = c })
cell_fault Texts low high nullable c (Num n) = Some (record { why = DomainCell; at = c })
cell_fault Texts low high nullable c (Str s) = if nat_lt 120 (length s) then Some (record { why = LongCell; at = c }) else None

abbrev pub first_fault : Option Fault → Option Fault → Option Fault
first_fault (Some fault) other = Some fault
first_fault None other = other

-- the first cell of the row that can't stand there; c is the number of the first column
abbrev pub bad_cell_from : ℕ → List Column → Row → Option Fault
bad_cell_from c [] row = None
bad_cell_from c (column ∷ columns) [] = None
bad_cell_from c (column ∷ columns) (v ∷ row) = first_fault (cell_fault column.kind column.lo column.hi column.nullable c v) (bad_cell_from (c + 1) columns row)

-- row number i of a statement has a key that is there already
abbrev pub key_fault : Table → ℕ → List Row → Row → Option Fault
key_fault table i rows row = if has_key table.key (cell_at row table.key) rows then Some (record { why = DuplicateKey; at = i }) else None

-- why a row can't be inserted into these rows as number i of its statement: first its cells, then its key
abbrev pub fault_of_row : Table → ℕ → List Row → Row → Option Fault
fault_of_row table i rows row = first_fault (bad_cell_from 0 table.columns row) (key_fault table i rows row)

abbrev pub or_else : Option Fault → Result (List Row) Fault → Result (List Row) Fault
or_else (Some fault) result = Err fault
or_else None result = result

-- at most 65,536 rows in a table, and at most 10,000 changes by a statement, each inserted row being one
abbrev pub within_limits : ℕ → List Row → Result (List Row) Fault
within_limits changes rows =
    if nat_lt 65536 (length rows) then Err (record { why = TableFull; at = 65536 })
    else (if nat_lt 10000 changes then Err (record { why = TooManyChanges; at = changes }) else Ok rows)

-- the rows after these are inserted from the left, the first of them being number i of its statement
abbrev pub inserted : Table → ℕ → List Row → List Row → Result (List Row) Fault
inserted table i [] rows = within_limits i rows
inserted table i (row ∷ more) rows = or_else (fault_of_row table i rows row) (inserted table (i + 1) more (with_row table.key rows row))

abbrev pub with_table : Tables → ℕ → Result (List Row) Fault → Result Tables Fault
with_table tables t (Ok rows) = Ok (slice_set tables t rows)
with_table tables t (Err fault) = Err fault

-- ---- UPDATE and DELETE

abbrev pub meets : Option Cond → Row → Bool
meets None row = true
meets (Some c) row = is_true (cell_at row) c

abbrev pub column_of : Table → ℕ → Column
column_of table c = slice_index_or table.columns c (record { name = []; kind = Texts; lo = pos 0; hi = pos 0; nullable = false })

abbrev pub place_fault : Table → Place → Option Fault
place_fault table p = let column = column_of table p.column in cell_fault column.kind column.lo column.hi column.nullable p.column p.value

-- the first new value that can't stand in its column
abbrev pub places_fault : Table → List Place → Option Fault
places_fault table [] = None
places_fault table (p ∷ places) = first_fault (place_fault table p) (places_fault table places)

abbrev pub with_places : List Place → Row → Row
with_places [] row = row
with_places (p ∷ places) row = with_places places (slice_set row p.column p.value)

-- the row after an UPDATE
abbrev pub updated_row : List Place → Option Cond → Row → Row
updated_row places c row = if meets c row then with_places places row else row

abbrev pub is_changed : List Place → Option Cond → Row → Bool
is_changed places c row = not (row_eq row (updated_row places c row))

abbrev pub within_changes : ℕ → List Row → Result (List Row) Fault
within_changes changes rows = if nat_lt 10000 changes then Err (record { why = TooManyChanges; at = changes }) else Ok rows

-- new values in the rows that meet the condition; a row that stays as it was is no change
abbrev pub updated : Table → List Place → Option Cond → List Row → Result (List Row) Fault
updated table places c rows =
    or_else (places_fault table places) (within_changes (length (filter (is_changed places c) rows)) (map (updated_row places c) rows))

-- each row that meets the condition is a change
abbrev pub deleted : Option Cond → List Row → Result (List Row) Fault
deleted c rows = within_changes (length (filter (meets c) rows)) (filter (λ row. not (meets c row)) rows)

-- the tables after a statement, or its first refusal
abbrev pub executed : List Table → Write → Tables → Result Tables Fault
executed schema (Insert t rows) tables = with_table tables t (inserted (table_at schema t) 0 rows (rows_at tables t))
executed schema (Update t places c) tables = with_table tables t (updated (table_at schema t) places c (rows_at tables t))
executed schema (Delete t c) tables = with_table tables t (deleted c (rows_at tables t))
