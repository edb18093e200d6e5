-- What a value must keep to be written, beyond what its type gives: a number's 64 bits, a text's UTF-8, bytes below 256.
use Rattle.std.specs.Prelude.{◌≡◌, ℕ, int_le, Bool, true, ◌&&◌, not, nat_le, List, length, take, Some, None}
use Rattle.std.specs.List.{list_all}
use Rattle.sr_cell.specs.declared.cell.Cell.{Cell}
use Rattle.sr_cell.specs.declared.cell.Cell.TheVariants.{Num, Str, Null as NullCell}
use Rattle.sr_cell.specs.Cells.{Row, text_le, is_null}
use Rattle.sr_box.specs.declared.span.Span.{Span}
use Rattle.sr_box.specs.declared.span.Span.TheVariants.{Full, Nums, Strs, Null}
use Rattle.sr_box.specs.Points.{Rect}
use Rattle.sr_bytes.specs.Spelling.{is_from_to}

abbrev pub may_write_cell : Cell → Bool
may_write_cell (Num n) = true
may_write_cell (Str text) = nat_le (length text) 120
may_write_cell NullCell = true

-- a key is never Null
abbrev pub may_write_key : Cell → Bool
may_write_key key = not (is_null key) && may_write_cell key

abbrev pub may_write_row : Row → Bool
may_write_row row = is_from_to 1 12 (length row) && list_all may_write_cell row

abbrev pub may_write_rows : List Row → Bool
may_write_rows rows = is_from_to 1 256 (length rows) && list_all may_write_row rows

-- an end is not below the beginning, and of texts above it
abbrev pub may_write_span : Span → Bool
may_write_span Full = true
may_write_span (Nums lo hi) = int_le lo hi
may_write_span (Strs lo (Some hi)) = nat_le (length lo) 121 && nat_le (length hi) 121 && not (text_le hi lo)
may_write_span (Strs lo None) = nat_le (length lo) 121
may_write_span Null = true

abbrev pub may_write_rect : Rect → Bool
may_write_rect rect = is_from_to 1 12 (length rect) && list_all may_write_span rect

abbrev pub may_write_rects : List Rect → Bool
may_write_rects rects = is_from_to 1 16384 (length rects) && list_all may_write_rect rects

-- what stood there stands in front still
abbrev pub IsBehind : List ℕ → List ℕ → Type 0
IsBehind old new = take (length old) new ≡ old
