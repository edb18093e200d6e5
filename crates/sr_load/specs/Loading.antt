-- What a CSV file says: a header that names each column once, in any order, and a record for each row.
use Rattle.std.specs.Prelude.{ℕ, pos, ◌+◌, ◌==◌, ◌&&◌, Bool, not, nat_le, List, [], ◌∷◌, ◌++◌, map, length, Option, Some, None, Result, Ok, if◌then◌else◌}
use Rattle.std.specs.List.{list_all}
use Rattle.std.specs.Str.{is_utf8}
use Rattle.std.specs.Str.Parse.{digits_value}
use Rattle.csv.specs.Reading.{records, default_config, strip_bom}
use Rattle.sr_cell.specs.declared.cell.Cell.{Cell}
use Rattle.sr_cell.specs.declared.cell.Cell.TheVariants.{Num, Str}
use Rattle.sr_cell.specs.declared.table.Kind.{Kind}
use Rattle.sr_cell.specs.declared.table.Kind.TheVariants.{Num as Numbers, Str as Texts}
use Rattle.sr_cell.specs.declared.table.Table.{Table}
use Rattle.sr_cell.specs.declared.fault.Fault.{Fault}
use Rattle.sr_cell.specs.declared.fault.Why.{Why}
use Rattle.sr_cell.specs.declared.fault.Why.TheVariants.{BadHeader, BadRecord, BadNumber, BadUtf8}
use Rattle.sr_cell.specs.Cells.{Row}
use Rattle.sr_grammar.specs.Words.{minus}
use Rattle.sr_query.specs.Binding.{fault, ◌>>=◌, column_named, column_at, is_among}
use Rattle.sr_query.specs.Writes.{numbers_from, value_for}

-- ---- fields

abbrev pub is_digit : ℕ → Bool
is_digit b = nat_le 48 b && nat_le b 57

-- one to eighteen digits
abbrev pub are_digits : List ℕ → Bool
are_digits digits = nat_le 1 (length digits) && nat_le (length digits) 18 && list_all is_digit digits

abbrev pub plain : List ℕ → Option Cell
plain digits = if are_digits digits then Some (Num (pos (digits_value 10 digits))) else None

abbrev pub signed : List ℕ → Option Cell
signed digits = if are_digits digits then Some (Num (minus (digits_value 10 digits))) else None

-- an optional minus, and digits
abbrev pub number_of : List ℕ → Option Cell
number_of [] = None
number_of (b ∷ bytes) = if b == 45 then signed bytes else plain (b ∷ bytes)

abbrev pub text_of : List ℕ → Option Cell
text_of bytes = if is_utf8 bytes then Some (Str bytes) else None

abbrev pub or_fault : Why → ℕ → Option Cell → Result Cell Fault
or_fault why n None = fault why n
or_fault why n (Some v) = Ok v

-- the cell of a field of record number n
abbrev pub cell_of : Kind → ℕ → List ℕ → Result Cell Fault
cell_of Numbers n bytes = or_fault BadNumber n (number_of bytes)
cell_of Texts n bytes = or_fault BadUtf8 n (text_of bytes)

-- ---- records

-- one column more, unless there is none of its name or it is named already
abbrev pub with_column : List ℕ → Option ℕ → Option (List ℕ)
with_column columns None = None
with_column columns (Some c) = if is_among columns c then None else Some (columns ++ c ∷ [])

abbrev pub columns_from : Table → Option (List ℕ) → List (List ℕ) → Option (List ℕ)
columns_from t None names = None
columns_from t (Some columns) [] = Some columns
columns_from t (Some columns) (name ∷ names) = columns_from t (with_column columns (column_named 0 t.columns name)) names

abbrev pub if_all : Table → Option (List ℕ) → Result (List ℕ) Fault
if_all t None = fault BadHeader 0
if_all t (Some columns) = if length columns == length t.columns then Ok columns else fault BadHeader 0

-- the numbers of the columns as the header names them; each column of the table is one of them
abbrev pub header_of : Table → List (List ℕ) → Result (List ℕ) Fault
header_of t names = if_all t (columns_from t (Some []) names)

-- the cells of the fields for these columns, the first bad field from the left
abbrev pub cells_of : Table → ℕ → List ℕ → List (List ℕ) → Result (List Cell) Fault
cells_of t n [] fields = Ok []
cells_of t n (c ∷ columns) [] = Ok []
cells_of t n (c ∷ columns) (field ∷ fields) = cell_of (column_at t c).kind n field >>= λ v. cells_of t n columns fields >>= λ vs. Ok (v ∷ vs)

-- the row of record number n, its cells in column order
abbrev pub row_of : Table → List ℕ → ℕ → List (List ℕ) → Result Row Fault
row_of t columns n fields =
    if not (length fields == length columns) then fault BadRecord n
    else (cells_of t n columns fields >>= λ values. Ok (map (λ c. value_for c columns values) (numbers_from 0 t.columns)))

-- the rows of the records, the first of them being number n
abbrev pub rows_from : Table → List ℕ → ℕ → List (List (List ℕ)) → Result (List Row) Fault
rows_from t columns n [] = Ok []
rows_from t columns n (fields ∷ others) = row_of t columns n fields >>= λ row. rows_from t columns (n + 1) others >>= λ rows. Ok (row ∷ rows)

-- a header, and then the rows, numbered from 1
abbrev pub rows_of : Table → List (List (List ℕ)) → Result (List Row) Fault
rows_of t [] = fault BadHeader 0
rows_of t (names ∷ others) = header_of t names >>= λ columns. rows_from t columns 1 others

-- the rows of a file, or its first fault
abbrev pub loaded : Table → List ℕ → Result (List Row) Fault
loaded t bytes = rows_of t (records default_config (strip_bom bytes))
