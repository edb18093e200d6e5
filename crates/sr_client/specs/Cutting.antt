-- Where the rects that a client holds and asks begin and end.
use Rattle.std.specs.Prelude.{ℕ, ◌<◌, ◌++◌, List, [], ◌∷◌, sum_by}
use Rattle.std.specs.List.{All}
use Rattle.sr_cell.specs.declared.table.Column.{Column}
use Rattle.sr_cell.specs.declared.table.Table.{Table}
use Rattle.sr_cell.specs.Columns.{table_at}
use Rattle.sr_box.specs.Points.{Rect}
use Rattle.sr_union.specs.Grid.{grid}
use Rattle.sr_message.specs.declared.message.AskPart.{AskPart}
use Rattle.sr_message.specs.Sizes.{most_rects}
use Rattle.sr_model.specs.Queries.{Query}
use Rattle.sr_history.specs.Load.{parts_on}
use Rattle.sr_history.specs.Ends.{AllEndAmong}
use Rattle.sr_query.specs.declared.query.Part.{Part}
use Rattle.sr_region.specs.declared.region.Region.{Region}
use Rattle.sr_store.specs.Stores.{cover_of}

-- rects of a table that begin and end only where tests of these queries do
abbrev pub EndWith : List Table → List Query → ℕ → List Rect → Type 0
EndWith schema queries t rects = AllEndAmong (table_at schema t).columns (parts_on t queries) rects

abbrev pub RegionsEnd : List Table → List Query → List Region → Type 0
RegionsEnd schema queries regions = All (λ g. EndWith schema queries g.table g.rects) regions

abbrev pub PartsEnd : List Table → List Query → List Part → Type 0
PartsEnd schema queries parts = All (λ part. EndWith schema queries part.table part.rects) parts

abbrev pub AsksEnd : List Table → List Query → List AskPart → Type 0
AsksEnd schema queries asks = All (λ ask. EndWith schema queries ask.table ask.rects) asks

-- what is asked begins and ends only where the regions and the parts do
abbrev pub AreCutAlong : List Table → List Region → List Part → List AskPart → Type 0
AreCutAlong schema regions parts asks = (queries : List Query) → RegionsEnd schema queries regions → PartsEnd schema queries parts → AsksEnd schema queries asks

abbrev pub grid_with : List Column → List Rect → List Rect → ℕ
grid_with columns cover [] = 0
grid_with columns cover (r ∷ rects) = grid columns ((r ∷ rects) ++ cover)

-- the grid that the rects of a part make with those that cover it; none, where it has no rects
abbrev pub grid_of_part : List Table → List Region → Part → ℕ
grid_of_part schema regions part = grid_with (table_at schema part.table).columns (cover_of part regions) part.rects

-- the grids of the parts are larger together than an ask may be
abbrev pub IsOver : List Table → List Region → List Part → Type 0
IsOver schema regions parts = most_rects < sum_by (grid_of_part schema regions) parts
