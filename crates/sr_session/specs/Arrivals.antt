-- The rows that messages bring, and what was asked with them.
use Rattle.std.specs.Prelude.{ℕ, ◌+◌, ◌==◌, List, [], ◌∷◌, ◌++◌, if◌then◌else◌}
use Rattle.sr_cell.specs.declared.table.Table.{Table}
use Rattle.sr_cell.specs.Columns.{table_at}
use Rattle.sr_cell.specs.Cells.{Row}
use Rattle.sr_message.specs.declared.message.AskPart.{AskPart}
use Rattle.sr_message.specs.declared.message.Message.{Message}
use Rattle.sr_message.specs.declared.message.Message.TheVariants.{Rows}
use Rattle.sr_store.specs.declared.store.Arrival.{Arrival}

-- the rows of the part of that number
abbrev pub arrived_at : ℕ → List Message → List Row
arrived_at i [] = []
arrived_at i (Rows k part rows ∷ ms) = (if part == i then rows else []) ++ arrived_at i ms
arrived_at i (m ∷ ms) = arrived_at i ms

-- the part with these rows
abbrev pub arrival_of : List Table → AskPart → List Row → Arrival
arrival_of schema ask rows = record { table = ask.table; key = (table_at schema ask.table).key; attrs = ask.attrs; rects = ask.rects; rows = rows }

-- the parts, each with the rows that the messages bring of it; i is the number of the first
abbrev pub arrivals_from : ℕ → List Table → List AskPart → List Message → List Arrival
arrivals_from i schema [] ms = []
arrivals_from i schema (ask ∷ asks) ms = arrival_of schema ask (arrived_at i ms) ∷ arrivals_from (i + 1) schema asks ms

abbrev pub arrivals_of : List Table → List AskPart → List Message → List Arrival
arrivals_of schema asks ms = arrivals_from 0 schema asks ms
