-- An image as bytes. All numbers have the highest byte first.
use Rattle.std.specs.Prelude.{ℕ, ◌+◌, List, ◌∷◌, ◌++◌, length, map, codes}
use Rattle.std.specs.List.{flat_map}
use Rattle.sr_cell.specs.declared.cell.Cell.{Cell}
use Rattle.sr_cell.specs.declared.table.Table.{Table}
use Rattle.sr_grammar.specs.Spaced.{printed}
use Rattle.sr_grammar.specs.Trees.{Create}
use Rattle.sr_bytes.specs.Spelling.{long_bytes, count_bytes, short_count_bytes, row_bytes, rects_bytes}
use Rattle.sr_image.specs.declared.image.Image.{Image}
use Rattle.sr_store.specs.declared.start.Kept.{Kept}

-- how each image begins
abbrev pub magic : List ℕ
magic = codes "SRIMAGE1"

-- the printed CREATE of each table
abbrev pub creates : List Table → List (List ℕ)
creates schema = map (λ t. printed (Create t)) schema

-- a text behind its length
abbrev pub long_text_bytes : List ℕ → List ℕ
long_text_bytes text = count_bytes (length text) ++ text

-- the texts behind their number
abbrev pub texts_bytes : List (List ℕ) → List ℕ
texts_bytes texts = length texts ∷ flat_map long_text_bytes texts

-- the rows behind their number
abbrev pub all_rows_bytes : List (List Cell) → List ℕ
all_rows_bytes rows = count_bytes (length rows) ++ flat_map row_bytes rows

-- a part: the table and the columns, then the rects and the rows
abbrev pub kept_bytes : Kept → List ℕ
kept_bytes k = k.table ∷ (short_count_bytes k.attrs ++ (rects_bytes k.rects ++ all_rows_bytes k.rows))

-- the parts behind their number
abbrev pub kepts_bytes : List Kept → List ℕ
kepts_bytes kept = count_bytes (length kept) ++ flat_map kept_bytes kept

-- what stands behind the length: the texts, the version and the parts
abbrev pub body_bytes : List (List ℕ) → Image → List ℕ
body_bytes texts image = texts_bytes texts ++ (long_bytes image.version ++ kepts_bytes image.kept)

-- the whole image over tables with these texts; it says its own length
abbrev pub bytes_over : List (List ℕ) → Image → List ℕ
bytes_over texts image = magic ++ (long_bytes (length (body_bytes texts image) + 16) ++ body_bytes texts image)

-- the image of what a client over that schema holds
abbrev pub image_bytes : List Table → Image → List ℕ
image_bytes schema image = bytes_over (creates schema) image
