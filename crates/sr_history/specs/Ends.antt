-- Rects that begin and end only where tests of queries do.
use Rattle.std.specs.Prelude.{ℕ, ◌+◌, ◌≤◌, true, List, [], ◌∷◌, ◌++◌, ◌≡◌, flat_map}
use Rattle.std.specs.List.{list_all, AllByRecursion, Contains}
use Rattle.sr_cell.specs.declared.cell.Cell.{Cell}
use Rattle.sr_cell.specs.declared.table.Column.{Column}
use Rattle.sr_box.specs.Points.{Rect, rect_fits}
use Rattle.sr_union.specs.Grid.{is_among, has_cut, grid, AreCutFrom}
use Rattle.sr_model.specs.Conditions.{Cond}
use Rattle.sr_model.specs.Ends.{ends}
use Rattle.sr_model.specs.Queries.{Part}
use Rattle.sr_history.specs.Load.{ends_grid}

-- each cut of the rect in a column is one of the column's values; c is the number of its first column
abbrev pub CutsIn : (ℕ → List Cell) → ℕ → List Column → Rect → Type 0
CutsIn values c [] r = Unit {0}
CutsIn values c (column ∷ columns) [] = Unit {0}
CutsIn values c (column ∷ columns) (s ∷ r) =
    ((v : Cell) → has_cut column.kind column.lo column.hi column.nullable s v ≡ true → is_among (values c) v ≡ true) × CutsIn values (c + 1) columns r

-- the ends of the tests of column c in the conditions of the parts
abbrev pub part_ends : List Part → ℕ → List Cell
part_ends parts c = flat_map (λ part. ends c part.condition) parts

-- the rect begins and ends only where a test of the condition does
abbrev pub EndsWith : ℕ → List Column → Cond → Rect → Type 0
EndsWith c columns condition r = CutsIn (λ column. ends column condition) c columns r

-- the rect begins and ends only where a test of some part does
abbrev pub EndsAmong : ℕ → List Column → List Part → Rect → Type 0
EndsAmong c columns parts r = CutsIn (part_ends parts) c columns r

abbrev pub AllEndAmong : List Column → List Part → List Rect → Type 0
AllEndAmong columns parts rects = AllByRecursion (EndsAmong 0 columns parts) rects

-- the grid of such rects is at most that of the ends
abbrev pub GridsAreFew : Type 0
GridsAreFew = (columns : List Column) (parts : List Part) (rects : List Rect) → list_all (rect_fits columns) rects ≡ true → AllEndAmong columns parts rects
    → grid columns rects ≤ ends_grid 0 columns parts

-- what is cut from such rects ends there too
abbrev pub CutsKeepEnds : Type 0
CutsKeepEnds = (columns : List Column) (parts : List Part) (given rects : List Rect) → AreCutFrom columns given rects
    → AllEndAmong columns parts given → AllEndAmong columns parts rects

-- nothing is lost where there are more parts
abbrev pub MorePartsKeepEnds : Type 0
MorePartsKeepEnds = (columns : List Column) (more parts others : List Part) (rects : List Rect) → AllEndAmong columns parts rects
    → AllEndAmong columns (more ++ (parts ++ others)) rects

-- rects of the condition of one of the parts
abbrev pub PartsHaveTheirEnds : Type 0
PartsHaveTheirEnds = (columns : List Column) (parts : List Part) (part : Part) (rects : List Rect) → Contains parts part
    → AllByRecursion (EndsWith 0 columns part.condition) rects
    → AllEndAmong columns parts rects
