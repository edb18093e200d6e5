-- Writing and reading an image belong together.
use Rattle.std.specs.Prelude.{ℕ, ◌<◌, ◌≤◌, ◌^◌, Bool, true, ◌&&◌, nat_lt, List, [], ◌∷◌, ◌++◌, length, ◌≡◌, Ok, Err, IsTrue}
use Rattle.std.specs.List.{list_all}
use Rattle.sr_cell.specs.declared.table.Table.{Table}
use Rattle.sr_cell.specs.Cells.{Row}
use Rattle.sr_cell.specs.Columns.{are_bytes, table_at}
use Rattle.sr_box.specs.Points.{Rect}
use Rattle.sr_bytes.specs.Spelling.{is_from_to, has_rect_bytes, has_row_bytes}
use Rattle.sr_query.specs.Bound.{is_table}
use Rattle.sr_region.specs.declared.region.Region.{Region}
use Rattle.sr_store.specs.Stores.{IsStore}
use Rattle.sr_store.specs.Fitted.{count_rows}
use Rattle.sr_store.specs.Starting.{AreLawful}
use Rattle.sr_image.specs.declared.image.Image.{Image}
use Rattle.sr_store.specs.declared.start.Kept.{Kept}
use Rattle.sr_image.specs.declared.image.ImageFault.TheVariants.{Short}
use Rattle.sr_image.specs.Reading.{may_head, may_rect, may_row, head_of, count_rects, image_in}
use Rattle.sr_image.specs.Joining.{ascends, image_from}
use Rattle.sr_image.specs.Spelling.{image_bytes}
use Rattle.sr_image.specs.Writing.{may_write_image, may_write_schema}

-- each item may stand behind those before it
abbrev pub each_may : {A : Type 0} → (List A → A → Bool) → List A → List A → Bool
each_may may before [] = true
each_may may before (x ∷ xs) = may before x && each_may may (before ++ x ∷ []) xs

-- a rect, or a row, that may stand behind those and has a spelling
abbrev pub is_rect : Table → ℕ → ℕ → List Rect → Rect → Bool
is_rect t attrs many before r = may_rect t attrs many before r && has_rect_bytes r

abbrev pub is_row : Table → ℕ → List Rect → List Row → Row → Bool
is_row t attrs rects before row = may_row t attrs rects before row && has_row_bytes row

-- in that number, each of them behind those before it
abbrev pub are_counted : {A : Type 0} → ℕ → ℕ → (List A → A → Bool) → List A → Bool
are_counted low high is xs = is_from_to low high (length xs) && each_may is [] xs

-- the head of a part that may stand behind those
abbrev pub is_head : List Table → List Kept → Kept → Bool
is_head schema before k = may_head schema before (head_of k) && is_from_to 0 4095 k.attrs

-- a part with its rects and rows that may stand behind those
abbrev pub is_kept : List Table → List Kept → Kept → Bool
is_kept schema before k =
    is_head schema before k
    && (are_counted 1 16384 (is_rect (table_at schema k.table) k.attrs (count_rects before)) k.rects
    && are_counted 0 200000 (is_row (table_at schema k.table) k.attrs k.rects) k.rows)

-- an image of what a client over the schema may hold
abbrev pub is_image : List Table → Image → Bool
is_image schema image = nat_lt image.version (2 ^ 64) && are_counted 0 1024 (is_kept schema) image.kept

-- What is written is read again.
abbrev pub ReadAgain : Type 0
ReadAgain = (schema : List Table) (image : Image) → IsTrue (is_image schema image) → IsTrue (may_write_schema schema)
    → length (image_bytes schema image) < 2 ^ 64
    → image_in schema (image_bytes schema image) ≡ Ok image

-- What is read as an image is one, and was spelled just so.
abbrev pub WasSpelled : Type 0
WasSpelled = (schema : List Table) (bytes : List ℕ) (image : Image) → IsTrue (are_bytes bytes) → image_in schema bytes ≡ Ok image
    → (bytes ≡ image_bytes schema image) × IsTrue (is_image schema image)

-- No beginning of an image but the whole is one: it is short.
abbrev pub NoneBegins : Type 0
NoneBegins = (schema : List Table) (front : List ℕ) (b : ℕ) (more : List ℕ) (image : Image) → image_in schema (front ++ b ∷ more) ≡ Ok image
    → image_in schema front ≡ Err Short

-- Each such image may be written.
abbrev pub MayBeWritten : Type 0
MayBeWritten = (schema : List Table) (image : Image) → IsTrue (is_image schema image) → IsTrue (may_write_image image)

-- A store may start from the parts of each such image.
abbrev pub IsLawful : Type 0
IsLawful = (schema : List Table) (image : Image) → IsTrue (list_all is_table schema) → IsTrue (is_image schema image) → AreLawful schema image.kept

-- An image can be made of the regions of each store.
abbrev pub MayBeMade : Type 0
MayBeMade = (schema : List Table) (regions : List Region) → IsStore schema regions → list_all ascends regions ≡ true

-- the rects and rows of the region have a spelling
abbrev pub is_spellable : Region → Bool
is_spellable r = list_all has_rect_bytes r.rects && list_all has_row_bytes r.rows

-- The image of a store of at most 1,024 regions and 200,000 rows, with such rects and rows, is one: what is written of it is read again.
abbrev pub IsOfStore : Type 0
IsOfStore = (schema : List Table) (version : ℕ) (regions : List Region)
    → IsTrue (list_all is_table schema) → IsStore schema regions → IsTrue (list_all is_spellable regions) → version < 2 ^ 64 → length regions ≤ 1024
    → count_rows regions ≤ 200000
    → IsTrue (is_image schema (image_from version regions))
