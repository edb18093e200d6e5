-- The part of a changed row that a region takes in.
use Rattle.std.specs.Prelude.{ℕ, List, Option, Some, None, if◌then◌else◌}
use Rattle.sr_cell.specs.Attrs.{project}
use Rattle.sr_cell.specs.Cells.{Row}
use Rattle.sr_model.specs.SortedRows.{with_row}
use Rattle.sr_box.specs.Points.{Rect, in_any}

-- the cells of these columns, if there is a row and it lies in the rects
abbrev pub part_in : ℕ → List Rect → Option Row → Option Row
part_in attrs rects None = None
part_in attrs rects (Some row) = if in_any rects row then Some (project attrs row) else None

-- the part among the rows, if there is one
abbrev pub with_part : ℕ → Option Row → List Row → List Row
with_part key None rows = rows
with_part key (Some part) rows = with_row key rows part
