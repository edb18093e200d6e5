-- Which bytes are an image, and why others are none.
use Rattle.std.specs.Prelude.{ℕ, zero, suc, ◌+◌, ◌-◌, ◌^◌, ◌==◌, Bool, true, false, ◌&&◌, ◌||◌, not, nat_lt, List, [], ◌∷◌, ◌++◌, length, take, drop, sum_by, bytes_eq, Result, Ok, Err, if◌then◌else◌}
use Rattle.std.specs.Int.{w16, w32, w64, from_be_bytes}
use Rattle.std.specs.List.{list_any}
use Rattle.std.specs.Option.{is_some}
use Rattle.sr_cell.specs.declared.table.Column.{Column}
use Rattle.sr_cell.specs.declared.table.Table.{Table}
use Rattle.sr_cell.specs.Attrs.{has_column}
use Rattle.sr_cell.specs.Cells.{Row}
use Rattle.sr_cell.specs.Columns.{takes_cell, table_at}
use Rattle.sr_model.specs.SortedRows.{key_lt}
use Rattle.sr_box.specs.Points.{Rect, rect_fits, constrains_only}
use Rattle.sr_box.specs.Cut.{rect_meet}
use Rattle.sr_region.specs.Regions.{rank, is_in}
use Rattle.sr_bytes.specs.Reading.{Reading, Got, Bad, Reader, ◌>>=◌, give, passing, a_byte, a_number, bytes_that, any_bytes, a_rect, a_row}
use Rattle.sr_bytes.specs.Spelling.{is_from_to}
use Rattle.sr_image.specs.declared.image.Image.{Image}
use Rattle.sr_store.specs.declared.start.Kept.{Kept}
use Rattle.sr_image.specs.declared.image.Head.{Head}
use Rattle.sr_image.specs.declared.image.ImageFault.{ImageFault}
use Rattle.sr_image.specs.declared.image.ImageFault.TheVariants.{Magic, Short, Left, Schema, Field}
use Rattle.sr_image.specs.Spelling.{magic, creates}

-- ---- lists of which each item is read by what those before it allow

-- so many items more, behind those before
abbrev pub each_behind : {A : Type 0} → (List A → Reader A) → ℕ → List A → Reader (List A)
each_behind r zero before = give []
each_behind r (suc n) before = do
  x ← r before
  more ← each_behind r n (before ++ x ∷ [])
  give (x ∷ more)

-- a number of items in that range, in four bytes, and the items
abbrev pub counted : {A : Type 0} → ℕ → ℕ → (List A → Reader A) → Reader (List A)
counted low high r = do
  n ← passing (is_from_to low high) (a_number w32)
  each_behind r n []

-- ---- the head of a part

-- which table, and which columns
abbrev pub head_of : Kept → Head
head_of k = record { table = k.table; attrs = k.attrs }

-- by table, and then by the columns as a number
abbrev pub is_before : Head → Head → Bool
is_before a b = nat_lt a.table b.table || (a.table == b.table && nat_lt a.attrs b.attrs)

-- it stands behind the last of these
abbrev pub is_behind : List Kept → Head → Bool
is_behind [] h = true
is_behind (k ∷ []) h = is_before (head_of k) h
is_behind (k ∷ more) h = is_behind more h

-- The table is one of the schema; the columns are its own, the key among them; and the part stands behind the one before it.
abbrev pub may_head : List Table → List Kept → Head → Bool
may_head schema before h =
    nat_lt h.table (length schema)
    && (nat_lt h.attrs (2 ^ length (table_at schema h.table).columns) && (has_column h.attrs (table_at schema h.table).key && is_behind before h))

-- columns are numbered below 12
abbrev pub a_head : Reader Head
a_head = do
  table ← a_byte
  attrs ← passing (is_from_to 0 4095) (a_number w16)
  give (record { table = table; attrs = attrs })

-- ---- rects

-- The rect fits the table, constrains none but the columns, and there are not too many; many stand in the parts before.
abbrev pub is_lone : Table → ℕ → ℕ → ℕ → Rect → Bool
is_lone t attrs many place r = rect_fits t.columns r && (constrains_only attrs 0 r && nat_lt (many + place) 16384)

-- it has a point in common with one of these
abbrev pub meets_some : List Rect → Rect → Bool
meets_some before r = list_any (λ q. is_some (rect_meet r q)) before

-- a rect may stand behind those before it in its part
abbrev pub may_rect : Table → ℕ → ℕ → List Rect → Rect → Bool
may_rect t attrs many before r = is_lone t attrs many (length before) r && not (meets_some before r)

abbrev pub some_rects : Table → ℕ → ℕ → Reader (List Rect)
some_rects t attrs many = counted 1 16384 (λ before. passing (may_rect t attrs many before) a_rect)

-- ---- rows

-- one cell for each of the columns, which it takes; c is the number of the first column
abbrev pub takes_part : ℕ → ℕ → List Column → Row → Bool
takes_part c attrs [] [] = true
takes_part c attrs [] (v ∷ row) = false
takes_part c attrs (column ∷ columns) [] = not (has_column attrs c) && takes_part (c + 1) attrs columns []
takes_part c attrs (column ∷ columns) (v ∷ row) =
    if has_column attrs c then takes_cell column v && takes_part (c + 1) attrs columns row else takes_part (c + 1) attrs columns (v ∷ row)

-- its key is above that of the last of these
abbrev pub is_above : ℕ → List Row → Row → Bool
is_above key [] row = true
is_above key (r ∷ []) row = key_lt key r row
is_above key (r ∷ more) row = is_above key more row

-- a row of these columns lies in the rects, and may stand behind those before it
abbrev pub may_row : Table → ℕ → List Rect → List Row → Row → Bool
may_row t attrs rects before row = takes_part 0 attrs t.columns row && (is_in attrs rects row && is_above (rank attrs t.key) before row)

abbrev pub some_rows : Table → ℕ → List Rect → Reader (List Row)
some_rows t attrs rects = counted 0 200000 (λ before. passing (may_row t attrs rects before) a_row)

-- ---- parts

abbrev pub count_rects : List Kept → ℕ
count_rects kept = sum_by (λ k. length k.rects) kept

-- the rects and rows of a part, where the parts before have so many rects
abbrev pub kept_behind : List Table → ℕ → Head → Reader Kept
kept_behind schema many h = do
  rects ← some_rects (table_at schema h.table) h.attrs many
  rows ← some_rows (table_at schema h.table) h.attrs rects
  give (record { table = h.table; attrs = h.attrs; rects = rects; rows = rows })

-- a part, behind those before it
abbrev pub a_kept : List Table → List Kept → Reader Kept
a_kept schema before = do
  h ← passing (may_head schema before) a_head
  kept_behind schema (count_rects before) h

-- the version and the parts
abbrev pub an_image : List Table → Reader Image
an_image schema = do
  version ← a_number w64
  kept ← counted 0 1024 (a_kept schema)
  give (record { version = version; kept = kept })

-- ---- texts

abbrev pub a_long_text : Reader (List ℕ)
a_long_text = do
  n ← a_number w32
  bytes_that any_bytes n

abbrev pub some_texts : Reader (List (List ℕ))
some_texts = do
  n ← passing (is_from_to 0 16) a_byte
  each_behind (λ before. a_long_text) n []

abbrev pub same_texts : List (List ℕ) → List (List ℕ) → Bool
same_texts [] [] = true
same_texts [] (t ∷ more) = false
same_texts (s ∷ others) [] = false
same_texts (s ∷ others) (t ∷ more) = bytes_eq s t && same_texts others more

-- ---- the whole

-- the bytes that are there are those that it begins with
abbrev pub are_alike : List ℕ → List ℕ → Bool
are_alike [] bytes = true
are_alike (a ∷ front) [] = true
are_alike (a ∷ front) (b ∷ bytes) = a == b && are_alike front bytes

-- nothing may be left over; places are counted from the first byte of the image
abbrev pub finished : ℕ → Reading Image → Result Image ImageFault
finished size (Got image []) = Ok image
finished size (Got image (b ∷ rest)) = Err (Field (size - length (b ∷ rest)))
finished size (Bad rest) = Err (Field (size - length rest))

-- the texts have to be those of the schema
abbrev pub behind_texts : List Table → List (List ℕ) → ℕ → Reading (List (List ℕ)) → Result Image ImageFault
behind_texts schema texts size (Got found rest) = if same_texts found texts then finished size (an_image schema rest) else Err Schema
behind_texts schema texts size (Bad rest) = Err (Field (size - length rest))

-- the length that the image says
abbrev pub length_in : List ℕ → ℕ
length_in bytes = from_be_bytes w64 (take 8 (drop 8 bytes))

-- The image that the bytes are, over tables with these texts; or why they are none, by the first reason of these.
abbrev pub image_over : List Table → List (List ℕ) → List ℕ → Result Image ImageFault
image_over schema texts bytes =
    if not (are_alike magic bytes) then Err Magic
    else if nat_lt (length bytes) 16 || nat_lt (length bytes) (length_in bytes) then Err Short
    else if nat_lt (length_in bytes) 29 then Err (Field 8)
    else if nat_lt (length_in bytes) (length bytes) then Err Left
    else behind_texts schema texts (length bytes) (some_texts (drop 16 bytes))

-- what the bytes are over that schema
abbrev pub image_in : List Table → List ℕ → Result Image ImageFault
image_in schema bytes = image_over schema (creates schema) bytes
