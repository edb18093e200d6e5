-- The regions of a client, and what of them a part of a query uses.
use Rattle.std.specs.Prelude.{ℕ, Bool, true, not, ◌&&◌, ◌==◌, ◌≤◌, List, length, filter, flat_map, sum_by, ◌≡◌, IsTrue}
use Rattle.std.specs.List.{All}
use Rattle.sr_cell.specs.declared.cause.Cause.{Cause}
use Rattle.sr_cell.specs.declared.cell.Cell.{Cell}
use Rattle.sr_cell.specs.declared.table.Table.{Table}
use Rattle.sr_cell.specs.Columns.{table_at, is_point}
use Rattle.sr_cell.specs.Attrs.{includes}
use Rattle.sr_cell.specs.Cells.{Row}
use Rattle.sr_box.specs.Points.{Rect}
use Rattle.sr_union.specs.Pieces.{IsWithin}
use Rattle.sr_query.specs.declared.query.Part.{Part}
use Rattle.sr_history.specs.declared.mark.Mark.{Mark}
use Rattle.sr_history.specs.declared.mark.Mark.TheVariants.{Dropped}
use Rattle.sr_region.specs.declared.region.Region.{Region}
pub use Rattle.sr_regions.specs.Touched.{IsOfSchema}
use Rattle.sr_store.specs.Classes.{occurs, key_occurs, ascends}

abbrev pub count_rects : List Region → ℕ
count_rects regions = sum_by (λ g. length g.rects) regions

-- the rects of the table's regions with strictly more columns
abbrev pub wider : List Region → ℕ → ℕ → List Rect
wider regions t a = flat_map (λ g. g.rects) (filter (λ g. g.table == t && (includes g.attrs a && not (g.attrs == a))) regions)

abbrev pub IsAbsorbedIn : List Table → List Region → Region → Type 0
IsAbsorbedIn schema all g = IsWithin (table_at schema g.table).columns g.rects (wider all g.table g.attrs)

-- none of the regions has all its points in others with more columns
abbrev pub IsSettled : List Table → List Region → Type 0
IsSettled schema regions = All (λ g. IsAbsorbedIn schema regions g → ⊥) regions

-- Regions in class order, of which no two of one table with the same columns have a point or a key in common.
pub record IsStore (schema : List Table) (regions : List Region) : Type 0 where
  pub each : All (IsOfSchema schema) regions
  pub order : ascends regions ≡ true
  pub once : (t a : ℕ) (p : Row) → IsTrue (is_point (table_at schema t).columns p) → occurs regions t a p ≤ 1
  pub keys : (t a : ℕ) (k : Cell) → key_occurs regions t a k ≤ 1
  pub few : count_rects regions ≤ 16384

-- the region holds each column that the part needs
abbrev pub serves : Part → Region → Bool
serves part g = g.table == part.table && includes g.attrs part.need

-- the rects of the regions that serve the part
abbrev pub cover_of : Part → List Region → List Rect
cover_of part regions = flat_map (λ g. g.rects) (filter (serves part) regions)

-- a drop of the region's class
abbrev pub drop_of : Cause → Region → Mark
drop_of cause g = Dropped cause g.table g.attrs g.stamp g.rects
