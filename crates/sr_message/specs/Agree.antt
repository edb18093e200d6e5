-- Rows that are equal in some columns.
use Rattle.std.specs.Prelude.{ℕ, ◌+◌, ◌&&◌, ◌||◌, not, Bool, true, false, List, [], ◌∷◌, Option, Some, None}
use Rattle.sr_cell.specs.Attrs.{has_column}
use Rattle.sr_cell.specs.Cells.{Row, cell_eq}

-- the rows have equal cells in the columns of attrs, where their first column has the number c
abbrev pub same_from : ℕ → ℕ → Row → Row → Bool
same_from c attrs [] [] = true
same_from c attrs [] (w ∷ q) = false
same_from c attrs (v ∷ p) [] = false
same_from c attrs (v ∷ p) (w ∷ q) = (not (has_column attrs c) || cell_eq v w) && same_from (c + 1) attrs p q

-- both rows are there, and they are equal in these columns
abbrev pub agree : ℕ → Option Row → Option Row → Bool
agree attrs None other = false
agree attrs (Some p) None = false
agree attrs (Some p) (Some q) = same_from 0 attrs p q
