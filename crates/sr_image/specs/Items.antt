-- A rect or a row that stands by itself.
use Rattle.std.specs.Prelude.{ℕ, ◌-◌, List, length, drop, Result, Ok, Err}
use Rattle.sr_cell.specs.Cells.{Row}
use Rattle.sr_box.specs.Points.{Rect}
use Rattle.sr_bytes.specs.Reading.{Reading, Got, Bad, a_rect, a_row}
use Rattle.sr_image.specs.declared.items.BadItem.{BadItem}
use Rattle.sr_image.specs.declared.items.RectAt.{RectAt}
use Rattle.sr_image.specs.declared.items.RowAt.{RowAt}

-- the item, and where it ends among so many bytes; or the place of the fault, from where it was to begin
abbrev pub rect_found : ℕ → ℕ → Reading Rect → Result RectAt BadItem
rect_found size from (Got rect rest) = Ok (record { rect = rect; next = size - length rest })
rect_found size from (Bad rest) = Err (record { place = (size - length rest) - from })

abbrev pub row_found : ℕ → ℕ → Reading Row → Result RowAt BadItem
row_found size from (Got row rest) = Ok (record { row = row; next = size - length rest })
row_found size from (Bad rest) = Err (record { place = (size - length rest) - from })

-- what stands at that place
abbrev pub rect_from : List ℕ → ℕ → Result RectAt BadItem
rect_from bytes from = rect_found (length bytes) from (a_rect (drop from bytes))

abbrev pub row_from : List ℕ → ℕ → Result RowAt BadItem
row_from bytes from = row_found (length bytes) from (a_row (drop from bytes))
