-- What must hold of an image that is written, beyond what its types give.
use Rattle.std.specs.Prelude.{ℕ, ◌^◌, Bool, ◌&&◌, nat_lt, nat_le, List, length}
use Rattle.std.specs.List.{list_all}
use Rattle.sr_cell.specs.declared.table.Table.{Table}
use Rattle.sr_bytes.specs.Writing.{may_write_rect, may_write_rects, may_write_row}
use Rattle.sr_region.specs.declared.region.Region.{Region}
use Rattle.sr_image.specs.declared.image.Image.{Image}
use Rattle.sr_store.specs.declared.start.Kept.{Kept}
use Rattle.sr_image.specs.Spelling.{creates}

abbrev pub may_write_kept : Kept → Bool
may_write_kept k = may_write_rects k.rects && (nat_le (length k.rows) 200000 && list_all may_write_row k.rows)

-- the same of a region, whatever their number is
abbrev pub may_write_region : Region → Bool
may_write_region r = list_all may_write_rect r.rects && list_all may_write_row r.rows

-- at most 1,024 parts, whose rects and rows have a spelling and are not too many
abbrev pub may_write_image : Image → Bool
may_write_image image = nat_le (length image.kept) 1024 && list_all may_write_kept image.kept

-- at most 16 texts, and the length of each fits four bytes
abbrev pub are_short : List (List ℕ) → Bool
are_short texts = nat_le (length texts) 16 && list_all (λ text. nat_lt (length text) (2 ^ 32)) texts

-- the printed CREATEs may be written
abbrev pub may_write_schema : List Table → Bool
may_write_schema schema = are_short (creates schema)
