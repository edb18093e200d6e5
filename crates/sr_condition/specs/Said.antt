-- Rects with just the points of which a condition is true, or of which it is false.
use Rattle.std.specs.Prelude.{ℕ, ◌+◌, ◌*◌, ◌≤◌, ◌≡◌, not, Bool, true, false, List, length, slice_set}
use Rattle.std.specs.List.{list_all, AllByRecursion}
use Rattle.sr_cell.specs.declared.table.Column.{Column}
use Rattle.sr_cell.specs.Cells.{Row, cell_at}
use Rattle.sr_box.specs.declared.span.Span.{Span}
use Rattle.sr_box.specs.Points.{Rect, in_any, rect_fits, full_rect, AreSame}
use Rattle.sr_model.specs.Conditions.{Cond, Conds, Tests, And, Or, Not, none, more, truth, is_so}
use Rattle.sr_model.specs.Width.{test_width}
use Rattle.sr_query.specs.Bound.{EndsWithTests}

-- a condition is true of the point, or it is false of it
abbrev pub says : Bool → Cond → Row → Bool
says plain c p = is_so plain (truth (cell_at p) c)

-- the condition that says what all members say, and the one that says what any of them does
abbrev pub all_of : Bool → Conds → Cond
all_of true cs = And cs
all_of false cs = Or cs

abbrev pub any_of : Bool → Conds → Cond
any_of true cs = Or cs
any_of false cs = And cs

-- the width, where no number is too large
abbrev mutual
  pub room : Bool → Cond → ℕ
  room plain (Tests c t) = test_width plain t
  room true (And cs) = room_times true cs
  room true (Or cs) = room_sum true cs
  room false (And cs) = room_sum false cs
  room false (Or cs) = room_times false cs
  room plain (Not c) = room (not plain) c

  pub room_times : Bool → Conds → ℕ
  room_times plain none = 1
  room_times plain (more c cs) = room plain c * room_times plain cs

  pub room_sum : Bool → Conds → ℕ
  room_sum plain none = 0
  room_sum plain (more c cs) = room plain c + room_sum plain cs

pub record AreRects (columns : List Column) (plain : Bool) (condition : Cond) (rects : List Rect) : Type 0 where
  pub fits : list_all (rect_fits columns) rects ≡ true
  pub points : AreSame columns (in_any rects) (says plain condition)
  pub few : length rects ≤ room plain condition
  pub ends : AllByRecursion (EndsWithTests 0 columns condition) rects

-- the rect that constrains one column alone
abbrev pub rect_with : List Column → ℕ → Span → Rect
rect_with columns c s = slice_set (full_rect columns) c s
