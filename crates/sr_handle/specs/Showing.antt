-- What a handle shows of itself.
use Rattle.std.specs.Prelude.{ℕ, ℤ, pos, nat_le, List, [], ◌++◌, length, drop, Option, Some, None, slice_get, if◌then◌else◌}
use Rattle.sr_cell.specs.declared.cell.Cell.{Cell}
use Rattle.sr_cell.specs.declared.cell.Cell.TheVariants.{Num, Str, Null}
use Rattle.sr_cell.specs.Cells.{Row}
use Rattle.sr_region.specs.declared.region.Region.{Region}
use Rattle.sr_handle.specs.declared.show.Shown.{Shown}

abbrev pub shown_region : Region → Shown
shown_region g = record { table = g.table; columns = g.attrs; stamp = g.stamp; rows = length g.rows }

-- what was there, where there is no such region
abbrev pub shown_at : Option Region → Shown → Shown
shown_at None old = old
shown_at (Some g) old = shown_region g

abbrev pub in_row : Option Row → ℕ → Option Cell
in_row None column = None
in_row (Some row) column = slice_get row column

abbrev pub cell_at : List Row → ℕ → ℕ → Option Cell
cell_at rows row column = in_row (slice_get rows row) column

abbrev pub kind_of : Option Cell → ℕ
kind_of None = 0
kind_of (Some (Num n)) = 1
kind_of (Some (Str text)) = 2
kind_of (Some Null) = 3

-- the number of a cell, or how many bytes its text has; else what was there
abbrev pub number_of : Option Cell → ℤ → ℤ
number_of None old = old
number_of (Some (Num n)) old = n
number_of (Some (Str text)) old = pos (length text)
number_of (Some Null) old = old

abbrev pub text_of : Option Cell → List ℕ
text_of None = []
text_of (Some (Num n)) = []
text_of (Some (Str text)) = text
text_of (Some Null) = []

-- the room with the bytes in front, where it is long enough
abbrev pub copied : List ℕ → List ℕ → List ℕ
copied bytes room = if nat_le (length bytes) (length room) then bytes ++ drop (length bytes) room else room
