-- What is left of rects where some points are had already.
use Rattle.std.specs.Prelude.{ℕ, Bool, true, not, ◌&&◌, List, ◌≡◌, ◌⊎◌, IsTrue, if◌then◌else◌}
use Rattle.std.specs.List.{AllByRecursion, list_any}
use Rattle.sr_cell.specs.declared.table.Column.{Column}
use Rattle.sr_cell.specs.Attrs.{has_column}
use Rattle.sr_cell.specs.Cells.{Row}
use Rattle.sr_cell.specs.Columns.{is_point}
use Rattle.sr_box.specs.Points.{Rect, Points, in_any, times, constrained, IsEssential}

-- the points of the rects that the cover does not have
abbrev pub left_over : List Rect → List Rect → Points
left_over rects cover p = in_any rects p && not (in_any cover p)

-- some rect constrains the column
abbrev pub is_constrained : ℕ → List Rect → Bool
is_constrained c rects = list_any (λ r. has_column (constrained r) c) rects

-- each of the points lies in just one rect, and a column that a rect constrains is needed or essential to the points
pub record AreLeft (columns : List Column) (need : ℕ) (a : Points) (rects : List Rect) : Type 0 where
  pub once : (p : Row) → IsTrue (is_point columns p) → times rects p ≡ (if a p then 1 else 0)
  pub bound : AllByRecursion (λ r. (c : ℕ) → has_column (constrained r) c ≡ true → (has_column need c ≡ true) ⊎ IsEssential columns a c) rects
