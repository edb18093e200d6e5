-- Which regions a change touches, and what it makes of them.
use Rattle.std.specs.Prelude.{ℕ, true, Bool, ◌&&◌, ◌||◌, ◌==◌, ◌+◌, ◌<◌, ◌≡◌, List, [], ◌∷◌, filter, length, map, if◌then◌else◌}
use Rattle.std.specs.List.{All}
use Rattle.sr_cell.specs.declared.cell.Cell.{Cell}
use Rattle.sr_cell.specs.declared.table.Table.{Table}
use Rattle.sr_cell.specs.Columns.{table_at}
use Rattle.sr_message.specs.declared.message.Tell.{Tell}
use Rattle.sr_model.specs.SortedRows.{ascend, has_key}
use Rattle.sr_box.specs.Rows.{has_row}
use Rattle.sr_region.specs.declared.region.Region.{Region}
use Rattle.sr_region.specs.Regions.{rank, IsRegion}
use Rattle.sr_region.specs.Applied.{applied, IsNew}

-- its rows stand by key
abbrev pub IsByKey : Region → Type 0
IsByKey g = ascend (rank g.attrs g.key) g.rows ≡ true

-- the region is of the table and has a row of the key
abbrev pub holds_key : ℕ → Cell → Region → Bool
holds_key t k g = g.table == t && has_key (rank g.attrs g.key) k g.rows

-- the region has a row of the key that is told, or its rects have the new row
abbrev pub is_touched : Tell → Region → Bool
is_touched tell g = holds_key tell.table tell.key g || (g.table == tell.table && has_row g.rects tell.after)

-- the region once it is told
abbrev pub told_one : Tell → Region → Region
told_one tell g = if tell.table == g.table then applied tell.key tell.after g else g

-- the regions once all is told, one tell after another
abbrev pub told_all : List Tell → List Region → List Region
told_all [] regions = regions
told_all (tell ∷ told) regions = told_all told (map (told_one tell) regions)

-- how many regions the tell touches
abbrev pub count_touched : Tell → List Region → ℕ
count_touched tell regions = length (filter (is_touched tell) regions)

-- of each tell those regions that it touches, as the tells before it left them
abbrev pub count_all : List Tell → List Region → ℕ
count_all [] regions = 0
count_all (tell ∷ told) regions = count_touched tell regions + count_all told (map (told_one tell) regions)

-- a region of a table of the schema
abbrev pub IsOfSchema : List Table → Region → Type 0
IsOfSchema schema g = (g.table < length schema) × IsRegion (table_at schema g.table) g

-- a new row of a table of the schema, with the key that is told
abbrev pub IsTellOf : List Table → Tell → Type 0
IsTellOf schema tell = (tell.table < length schema) × IsNew (table_at schema tell.table) tell.key tell.after

-- regions of a schema, and what is told of its tables
abbrev pub AreTellable : List Table → List Tell → List Region → Type 0
AreTellable schema told regions = All (IsOfSchema schema) regions × All (IsTellOf schema) told
