-- Rows as bytes.
use Rattle.std.specs.Prelude.{ℕ, List, [], ◌∷◌, ◌++◌, length}
use Rattle.std.specs.List.{flat_map}
use Rattle.sr_bytes.specs.Spelling.{count_bytes, number_bytes}
use Rattle.sr_cell.specs.declared.cell.Cell.{Cell}
use Rattle.sr_cell.specs.declared.cell.Cell.TheVariants.{Num, Str, Null}
use Rattle.sr_cell.specs.Cells.{Row}

-- A number is 0 and its eight bytes, a text 1, its length in four bytes, and itself; NULL is 2.
abbrev pub packed_cell : Cell → List ℕ
packed_cell (Num n) = 0 ∷ number_bytes n
packed_cell (Str text) = 1 ∷ count_bytes (length text) ++ text
packed_cell Null = 2 ∷ []

-- how many cells, in four bytes, and the cells
abbrev pub packed_row : Row → List ℕ
packed_row row = count_bytes (length row) ++ flat_map packed_cell row

abbrev pub packed_rows : List Row → List ℕ
packed_rows rows = flat_map packed_row rows
