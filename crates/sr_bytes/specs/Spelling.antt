-- Values as bytes. Each value has one spelling, and some have none.
use Rattle.std.specs.Prelude.{ℕ, ◌^◌, ℤ, pos, negsuc, int_le, Bool, true, ◌&&◌, not, nat_le, nat_lt, List, [], ◌∷◌, ◌++◌, length, Some, None}
use Rattle.std.specs.Int.{w16, w32, w64, to_be_bytes, cast_unsigned}
use Rattle.std.specs.List.{flat_map, list_all}
use Rattle.std.specs.Str.{is_utf8}
use Rattle.sr_cell.specs.declared.cell.Cell.{Cell}
use Rattle.sr_cell.specs.declared.cell.Cell.TheVariants.{Num, Str, Null as NullCell}
use Rattle.sr_cell.specs.Cells.{Row, text_le, is_null}
use Rattle.sr_cell.specs.Columns.{are_bytes}
use Rattle.sr_box.specs.declared.span.Span.{Span}
use Rattle.sr_box.specs.declared.span.Span.TheVariants.{Full, Nums, Strs, Null}
use Rattle.sr_box.specs.Points.{Rect}

-- eight bytes, the highest first; a negative number as two's complement
unfoldable pub number_bytes : ℤ → List ℕ
number_bytes n = to_be_bytes w64 (cast_unsigned w64 n)

-- a number of 64 bits without a sign
unfoldable pub long_bytes : ℕ → List ℕ
long_bytes n = to_be_bytes w64 n

-- how many there are, in four bytes
unfoldable pub count_bytes : ℕ → List ℕ
count_bytes n = to_be_bytes w32 n

-- the same in two bytes
unfoldable pub short_count_bytes : ℕ → List ℕ
short_count_bytes n = to_be_bytes w16 n

-- a byte of length, and that many bytes
abbrev pub text_bytes : List ℕ → List ℕ
text_bytes text = length text ∷ text

abbrev pub cell_bytes : Cell → List ℕ
cell_bytes (Num n) = 0 ∷ number_bytes n
cell_bytes (Str text) = 1 ∷ text_bytes text
cell_bytes NullCell = 2 ∷ []

-- how many cells, and the cells
abbrev pub row_bytes : Row → List ℕ
row_bytes row = length row ∷ flat_map cell_bytes row

abbrev pub rows_bytes : List Row → List ℕ
rows_bytes rows = short_count_bytes (length rows) ++ flat_map row_bytes rows

abbrev pub span_bytes : Span → List ℕ
span_bytes Full = 0 ∷ []
span_bytes (Nums lo hi) = 1 ∷ number_bytes lo ++ number_bytes hi
span_bytes (Strs lo (Some hi)) = 2 ∷ text_bytes lo ++ text_bytes hi
span_bytes (Strs lo None) = 3 ∷ text_bytes lo
span_bytes Null = 4 ∷ []

abbrev pub rect_bytes : Rect → List ℕ
rect_bytes rect = length rect ∷ flat_map span_bytes rect

abbrev pub rects_bytes : List Rect → List ℕ
rects_bytes rects = count_bytes (length rects) ++ flat_map rect_bytes rects

-- what has a spelling

abbrev pub is_from_to : ℕ → ℕ → ℕ → Bool
is_from_to low high n = nat_le low n && nat_le n high

-- a number of 64 bits
abbrev pub is_number : ℤ → Bool
is_number (pos n) = nat_lt n (2 ^ 63)
is_number (negsuc n) = nat_lt n (2 ^ 63)

abbrev pub has_cell_bytes : Cell → Bool
has_cell_bytes (Num n) = is_number n
has_cell_bytes (Str text) = nat_le (length text) 120 && is_utf8 text
has_cell_bytes NullCell = true

-- a key is never Null
abbrev pub has_key_bytes : Cell → Bool
has_key_bytes key = not (is_null key) && has_cell_bytes key

abbrev pub has_row_bytes : Row → Bool
has_row_bytes row = is_from_to 1 12 (length row) && list_all has_cell_bytes row

abbrev pub have_rows_bytes : List Row → Bool
have_rows_bytes rows = is_from_to 1 256 (length rows) && list_all has_row_bytes rows

-- a text of at most 121 bytes may bound a span
abbrev pub is_bound : List ℕ → Bool
is_bound text = nat_le (length text) 121 && are_bytes text

-- a number that ends a span is not below the one that begins it, and a text is above the one that does
abbrev pub has_span_bytes : Span → Bool
has_span_bytes Full = true
has_span_bytes (Nums lo hi) = is_number lo && is_number hi && int_le lo hi
has_span_bytes (Strs lo (Some hi)) = is_bound lo && is_bound hi && not (text_le hi lo)
has_span_bytes (Strs lo None) = is_bound lo
has_span_bytes Null = true

abbrev pub has_rect_bytes : Rect → Bool
has_rect_bytes rect = is_from_to 1 12 (length rect) && list_all has_span_bytes rect

abbrev pub have_rects_bytes : List Rect → Bool
have_rects_bytes rects = is_from_to 1 16384 (length rects) && list_all has_rect_bytes rects
