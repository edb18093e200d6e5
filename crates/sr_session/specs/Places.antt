-- Points of all tables under sets of columns, and the changes that concern them.
use Rattle.std.specs.Prelude.{ℕ, Bool, true, false, ◌&&◌, ◌||◌, ◌==◌, not, List, ◌≡◌, Option, Some, None}
use Rattle.std.specs.List.{list_any}
use Rattle.sr_cell.specs.declared.change.Change.{Change}
use Rattle.sr_cell.specs.declared.table.Table.{Table}
use Rattle.sr_cell.specs.Cells.{Row}
use Rattle.sr_cell.specs.Columns.{is_point, table_at}
use Rattle.sr_box.specs.Points.{in_any}
use Rattle.sr_message.specs.declared.message.AskPart.{AskPart}
use Rattle.sr_message.specs.Agree.{agree}
use Rattle.sr_history.specs.declared.mark.Mark.{Mark}
use Rattle.sr_history.specs.Marks.{is_held}

-- a set of points for each table and each set of its columns
abbrev pub Places : Type 0
Places = ℕ → ℕ → Row → Bool

abbrev pub nowhere : Places
nowhere t a p = false

-- what marks hold under just these columns
abbrev pub held : List Mark → Places
held marks t a p = is_held marks t a p

-- what an ask asks, under its columns
abbrev pub asked : List AskPart → Places
asked parts t a p = list_any (λ ask. ask.table == t && ask.attrs == a && in_any ask.rects p) parts

abbrev pub both : Places → Places → Places
both one other t a p = one t a p || other t a p

-- Each of these points of the schema's tables is one of those, under the same columns.
abbrev pub Within : List Table → Places → Places → Type 0
Within schema few many = (t a : ℕ) (p : Row) → is_point (table_at schema t).columns p ≡ true → few t a p ≡ true → many t a p ≡ true

abbrev pub at_row : Places → ℕ → ℕ → Option Row → Bool
at_row places t a None = false
at_row places t a (Some p) = places t a p

-- the old or the new row is one of the points under these columns, and the two differ there or one is absent
abbrev pub concerns : Places → ℕ → Change → Bool
concerns places a c = (at_row places c.table a c.before || at_row places c.table a c.after) && not (agree a c.before c.after)
