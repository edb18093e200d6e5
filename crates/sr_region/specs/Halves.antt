-- The two halves of a region.
use Rattle.std.specs.Prelude.{ℕ, ◌<◌, Bool, not, List, [], ◌∷◌, ◌++◌, ◌≡◌, ◌≢◌, ◌&&◌, Option, Some, None, filter, length, ◌≤◌, IfSome}
use Rattle.sr_cell.specs.declared.table.Column.{Column}
use Rattle.sr_cell.specs.declared.table.Table.{Table}
use Rattle.sr_cell.specs.Cells.{Row}
use Rattle.sr_box.specs.Points.{Rect, Points, in_any, AreSame, HasPoint, HasNoPoint}
use Rattle.sr_union.specs.Grid.{AreCutFrom, grid}
use Rattle.sr_region.specs.declared.region.Region.{Region}
use Rattle.sr_region.specs.declared.halves.NotSplit.{NotSplit}
use Rattle.sr_region.specs.declared.halves.NotSplit.TheVariants.{Over, NoMemory}
use Rattle.sr_region.specs.Regions.{is_in, IsRegion, AreOfClass}

-- a region with those points, and with the rows of the whole that pass the test
pub record IsHalf (t : Table) (whole : Region) (cut : List Rect) (those : Points) (test : Row → Bool) (half : Region) : Type 0 where
  pub region : IsRegion t half
  pub class : AreOfClass half whole
  pub some : HasPoint t.columns those
  pub points : AreSame t.columns (in_any half.rects) those
  pub rows : half.rows ≡ filter test whole.rows
  pub cuts : AreCutFrom t.columns (whole.rects ++ cut) half.rects

-- where there is no such point there is no region, and no such row
abbrev pub MaybeHalf : Table → Region → List Rect → Points → (Row → Bool) → Option Region → Type 0
MaybeHalf t whole cut those test None = HasNoPoint t.columns those × (filter test whole.rows ≡ [])
MaybeHalf t whole cut those test (Some half) = IsHalf t whole cut those test half

abbrev pub IsInside : Table → Region → List Rect → Option Region → Type 0
IsInside t whole cut half = MaybeHalf t whole cut (λ p. in_any whole.rects p && in_any cut p) (is_in whole.attrs cut) half

abbrev pub IsOutside : Table → Region → List Rect → Option Region → Type 0
IsOutside t whole cut half = MaybeHalf t whole cut (λ p. in_any whole.rects p && not (in_any cut p)) (λ row. not (is_in whole.attrs cut row)) half

-- a half that is there has at most so many rects
abbrev pub HasFew : ℕ → Option Region → Type 0
HasFew limit half = IfSome half (λ r. length r.rects ≤ limit)

-- the whole itself, which has rects, and a limit that is below the grid, unless memory was refused
abbrev pub IsRefusal : List Column → Region → List Rect → ℕ → NotSplit → Type 0
IsRefusal columns whole cut limit (Over r) = (r ≡ whole) × (whole.rects ≢ []) × (limit < grid columns (whole.rects ++ cut))
IsRefusal columns whole cut limit (NoMemory r) = r ≡ whole

-- a region of the whole's class, where there are rects
abbrev pub half_of : Region → List Rect → List Row → Option Region
half_of whole [] rows = None
half_of whole (r ∷ rects) rows = Some (record whole { rects = r ∷ rects; rows = rows })
