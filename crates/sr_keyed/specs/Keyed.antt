-- Rows by key, as contracts see them.
use Rattle.std.specs.Prelude.{ℕ, Bool, true, false, ◌&&◌, List, map, Option, Some, None, if◌then◌else◌}
use Rattle.sr_cell.specs.declared.cell.Cell.{Cell}
use Rattle.sr_cell.specs.declared.cell.Cell.TheVariants.{Num, Str, Null}
use Rattle.sr_cell.specs.declared.table.Kind.{Kind}
use Rattle.sr_cell.specs.declared.table.Kind.TheVariants.{Num as Numbers, Str as Texts}
use Rattle.sr_cell.specs.Cells.{Row, cell_at, cell_le, cell_eq}

-- the number and the kind of the key column, and the rows by key ascending
pub record Keyed : Type 0 where
  pub key : ℕ
  pub kind : Kind
  pub rows : List Row

-- Null is of each kind
abbrev pub is_of : Kind → Cell → Bool
is_of Numbers (Num n) = true
is_of Numbers (Str s) = false
is_of Texts (Num n) = false
is_of Texts (Str s) = true
is_of Numbers Null = true
is_of Texts Null = true

-- the row that has another's key gives way to it
abbrev pub with_replaced : ℕ → Row → List Row → List Row
with_replaced key row rows = map (λ r. if cell_eq (cell_at r key) (cell_at row key) then row else r) rows

abbrev pub is_from : Option Cell → Cell → Bool
is_from None v = true
is_from (Some low) v = cell_le low v

abbrev pub is_up_to : Option Cell → Cell → Bool
is_up_to None v = true
is_up_to (Some high) v = cell_le v high

-- the key is neither below the lower end nor above the upper one, as far as there are ends
abbrev pub is_between : ℕ → Option Cell → Option Cell → Row → Bool
is_between key low high row = is_from low (cell_at row key) && is_up_to high (cell_at row key)
