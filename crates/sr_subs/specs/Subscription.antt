-- Subscriptions: points of tables under sets of columns, as lists of rects, and the changes that touch them.
use Rattle.std.specs.Prelude.{ℕ, Bool, not, ◌&&◌, ◌||◌, ◌==◌, List, IsTrue}
use Rattle.std.specs.List.{list_all, list_any}
use Rattle.sr_cell.specs.declared.change.Change.{Change}
use Rattle.sr_cell.specs.declared.table.Column.{Column}
use Rattle.sr_cell.specs.Attrs.{includes}
use Rattle.sr_cell.specs.Cells.{Row}
use Rattle.sr_box.specs.Points.{in_any, rect_fits}
use Rattle.sr_box.specs.Rows.{has_row}
use Rattle.sr_message.specs.Agree.{agree}
use Rattle.sr_message.specs.declared.message.Holding.{Holding}

-- the subscription has that row of the table of that number, under columns that include these
abbrev pub has_point : List Holding → ℕ → ℕ → Row → Bool
has_point subscription t a row = list_any (λ h. h.table == t && includes h.attrs a && in_any h.rects row) subscription

-- the old or the new row is among the entry's points, unless both are and they are equal in the entry's columns
abbrev pub touches_entry : Change → Holding → Bool
touches_entry c h =
    h.table == c.table
    && ((has_row h.rects c.before || has_row h.rects c.after) && not (has_row h.rects c.before && has_row h.rects c.after && agree h.attrs c.before c.after))

-- a change touches a subscription where it touches an entry
abbrev pub touches : List Holding → Change → Bool
touches subscription c = list_any (touches_entry c) subscription

-- its rects fit the columns of some table, so each has a point
abbrev pub FitsSome : Holding → Type 0
FitsSome h = (columns : List Column) × IsTrue (list_all (rect_fits columns) h.rects)
