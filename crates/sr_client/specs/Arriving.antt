-- What was asked, with the rows that came.
use Rattle.std.specs.Prelude.{ℕ, zero, suc, Bool, true, false, ◌+◌, ◌++◌, List, [], ◌∷◌}
use Rattle.sr_cell.specs.declared.table.Table.{Table}
use Rattle.sr_cell.specs.Cells.{Row}
use Rattle.sr_message.specs.declared.message.AskPart.{AskPart}
use Rattle.sr_message.specs.declared.message.Message.{Message}
use Rattle.sr_message.specs.declared.message.Message.TheVariants.{Rows}
use Rattle.sr_region.specs.declared.region.Region.{Region}
use Rattle.sr_store.specs.declared.store.Arrival.{Arrival}
pub use Rattle.sr_session.specs.Arrivals.{arrival_of, arrivals_from, arrivals_of}

abbrev pub is_empty : List Region → Bool
is_empty [] = true
is_empty (g ∷ regions) = false

-- the part without rows yet
abbrev pub unfilled : List Table → AskPart → Arrival
unfilled schema ask = arrival_of schema ask []

-- ---- one message after another

-- the arrivals with rows more of that number
abbrev pub more_at : ℕ → List Row → List Arrival → List Arrival
more_at n rows [] = []
more_at zero rows (r ∷ arrivals) = record r { rows = r.rows ++ rows } ∷ arrivals
more_at (suc n) rows (r ∷ arrivals) = r ∷ more_at n rows arrivals

-- the arrivals with the rows that the message brings
abbrev pub with_message : Message → List Arrival → List Arrival
with_message (Rows number part rows) arrivals = more_at part rows arrivals
with_message other arrivals = arrivals

abbrev pub with_messages : List Message → List Arrival → List Arrival
with_messages [] arrivals = arrivals
with_messages (m ∷ ms) arrivals = with_messages ms (with_message m arrivals)
