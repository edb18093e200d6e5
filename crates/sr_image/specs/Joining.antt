-- The image of what a client holds.
use Rattle.std.specs.Prelude.{ℕ, ◌==◌, ◌&&◌, Bool, false, List, [], ◌∷◌, ◌++◌, Option, Some, None, if◌then◌else◌}
use Rattle.std.specs.List.{prefix_len}
use Rattle.sr_model.specs.SortedRows.{ascend, with_rows}
use Rattle.sr_region.specs.declared.region.Region.{Region}
use Rattle.sr_region.specs.Regions.{rank}
use Rattle.sr_image.specs.declared.image.Image.{Image}
use Rattle.sr_store.specs.declared.start.Kept.{Kept}
use Rattle.sr_image.specs.declared.image.Head.{Head}
use Rattle.sr_image.specs.Reading.{head_of, is_before}

-- its rows ascend by key
abbrev pub ascends : Region → Bool
ascends r = ascend (rank r.attrs r.key) r.rows

-- what is held of a region
abbrev pub kept_from : Region → Kept
kept_from r = record { table = r.table; attrs = r.attrs; rects = r.rects; rows = r.rows }

-- the rects of both, one after another, and their rows by key
abbrev pub joined : Kept → Region → Kept
joined k r = record { table = k.table; attrs = k.attrs; rects = k.rects ++ r.rects; rows = with_rows (rank r.attrs r.key) k.rows r.rows }

abbrev pub is_of : Region → Kept → Bool
is_of r k = k.table == r.table && k.attrs == r.attrs

-- there is a part, and it is of the region's table and columns
abbrev pub is_of_at : Region → Option Kept → Bool
is_of_at r None = false
is_of_at r (Some k) = is_of r k

-- the part stands before the region's
abbrev pub stands_before : Region → Kept → Bool
stands_before r k = is_before (head_of k) (head_of (kept_from r))

-- how many parts from the first on do
abbrev pub place_of : Region → List Kept → ℕ
place_of r kept = prefix_len (stands_before r) kept

-- the region is put to the part of its table and columns, which may be a new one at its place
abbrev pub with_region : List Kept → Region → List Kept
with_region [] r = kept_from r ∷ []
with_region (k ∷ kept) r =
    if is_of r k then joined k r ∷ kept
    else if stands_before r k then k ∷ with_region kept r else kept_from r ∷ (k ∷ kept)

-- region after region
abbrev pub with_regions : List Kept → List Region → List Kept
with_regions kept [] = kept
with_regions kept (r ∷ regions) = with_regions (with_region kept r) regions

-- the image of regions, at that version
abbrev pub image_from : ℕ → List Region → Image
image_from version regions = record { version = version; kept = with_regions [] regions }
