-- What a message tells, piece by piece.
use Rattle.std.specs.Prelude.{◌≡◌, ℕ, Bool, true, false, not, ◌&&◌, ◌||◌, ◌==◌, nat_lt, List, [], ◌∷◌, slice_get, length, Option, None, Some}
use Rattle.sr_cell.specs.declared.cell.Cell.{Cell}
use Rattle.sr_cell.specs.declared.table.Table.{Table}
use Rattle.sr_cell.specs.Cells.{cell_at, cell_eq, cell_le}
use Rattle.sr_cell.specs.Columns.{takes_cell, fits_columns}
use Rattle.sr_message.specs.declared.message.Message.{Message}
use Rattle.sr_message.specs.declared.message.Message.TheVariants.{Rows}
use Rattle.sr_message.specs.declared.message.Tell.{Tell}
use Rattle.sr_session.specs.Misfits.{last_came}

-- the key column takes the cell
abbrev pub key_suits : Table → Cell → Bool
key_suits table key = elim (slice_get table.columns table.key) as (λ column. Bool) [ None ↦ false | Some column ↦ takes_cell column key ]

-- the new row fits the table, and has the key that is told
abbrev pub after_suits : Table → Tell → Bool
after_suits table tell = elim tell.after as (λ after. Bool) [ None ↦ true | Some row ↦ fits_columns table.columns row && cell_eq (cell_at row table.key) tell.key ]

-- by table, then by key
abbrev pub is_told_before : Tell → Tell → Bool
is_told_before a b = nat_lt a.table b.table || (a.table == b.table && (cell_le a.key b.key && not (cell_eq a.key b.key)))

-- some row comes with the message
abbrev pub brings_rows : Message → Bool
brings_rows (Rows number part rows) = nat_lt 0 (length rows)
brings_rows other = false

-- the message of that place, if there is one, is the last that brings rows
abbrev pub IsLastRows : List Message → Option ℕ → Type 0
IsLastRows messages None = last_came None messages ≡ None
IsLastRows messages (Some place) = (message : Message) × (slice_get messages place ≡ Some message) × (last_came None (message ∷ []) ≡ last_came None messages)
