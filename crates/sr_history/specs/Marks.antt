-- What a client holds, as the history of its marks says.
use Rattle.std.specs.Prelude.{ℕ, Bool, true, false, ◌&&◌, ◌==◌, List, [], ◌∷◌, if◌then◌else◌, fold}
use Rattle.std.specs.List.{list_any}
use Rattle.sr_cell.specs.declared.table.Table.{Table}
use Rattle.sr_cell.specs.Columns.{table_at}
use Rattle.sr_cell.specs.Attrs.{includes}
use Rattle.sr_box.specs.Points.{Points, in_any, HasNoPoint}
use Rattle.sr_history.specs.declared.mark.Mark.{Mark}
use Rattle.sr_history.specs.declared.mark.Mark.TheVariants.{Held, Dropped}

abbrev pub attrs_of : Mark → ℕ
attrs_of (Held t a rects) = a
attrs_of (Dropped cause t a stamp rects) = a

-- the mark is of this table and exactly these columns, and has the point
abbrev pub concerns : Mark → ℕ → ℕ → Points
concerns (Held t a rects) table attrs p = t == table && a == attrs && in_any rects p
concerns (Dropped cause t a stamp rects) table attrs p = t == table && a == attrs && in_any rects p

abbrev pub is_held_mark : Mark → Bool
is_held_mark (Held t a rects) = true
is_held_mark (Dropped cause t a stamp rects) = false

-- The marks stand newest first, and the first one that concerns the point decides.
abbrev pub is_held : List Mark → ℕ → ℕ → Points
is_held [] table attrs p = false
is_held (mark ∷ marks) table attrs p = if concerns mark table attrs p then is_held_mark mark else is_held marks table attrs p

-- held under some columns that include the needed ones
abbrev pub is_covered : List Mark → ℕ → ℕ → Points
is_covered marks table need p = list_any (λ mark. includes (attrs_of mark) need && is_held marks table (attrs_of mark) p) marks

abbrev pub HoldsNothing : List Table → List Mark → Type 0
HoldsNothing schema marks = (table attrs : ℕ) → HasNoPoint (table_at schema table).columns (is_held marks table attrs)

-- after more marks, which are given in the order of their coming
abbrev pub with_marks : List Mark → List Mark → List Mark
with_marks old marks = fold (λ ms m. m ∷ ms) old marks
