-- Who is told of a change: over wire 1 whoever has its old or its new row, over wire 2 by the columns that are held.
use Rattle.std.specs.Prelude.{ℕ, pos, true, false, ◌&&◌, ◌||◌, ◌==◌, ◌≤◌, ◌≡◌, List, [], ◌∷◌, length, Some}
use Rattle.sr_cell.specs.declared.cell.Cell.TheVariants.{Num, Str}
use Rattle.sr_cell.specs.declared.change.Change.{Change}
use Rattle.sr_cell.specs.Cells.{Row}
use Rattle.sr_box.specs.declared.span.Span.TheVariants.{Full, Nums}
use Rattle.sr_box.specs.Rows.{has_row}
use Rattle.sr_message.specs.declared.message.Holding.{Holding}
use Rattle.sr_subs.specs.Subscription.{touches, touches_entry}
use Rattle.sr_model.specs.SortedRows.{row_eq}
use Rattle.sr_session.specs.Sessions.{all_columns}

-- where the change has two rows, they differ, and the old one has at most twelve cells
abbrev pub RowsDiffer : Change → Type 0
RowsDiffer c = (p q : Row) → c.before ≡ Some p → c.after ≡ Some q → (length p ≤ 12) × (row_eq p q ≡ false)

-- An entry for all columns is touched just where the old or the new row is among its points.
abbrev pub AllColumnsAreToldAll : Type 0
AllColumnsAreToldAll =
    (h : Holding) (c : Change) → h.attrs ≡ all_columns → RowsDiffer c
    → touches_entry c h ≡ (h.table == c.table && (has_row h.rects c.before || has_row h.rects c.after))

-- rows of a table of three columns: a number, a number and a text
abbrev pub row : ℕ → ℕ → ℕ → Row
row id age letter = Num (pos id) ∷ Num (pos age) ∷ Str (letter ∷ []) ∷ []

-- the second column from 30 to 40, under these columns
abbrev pub entry : ℕ → List Holding
entry attrs = record { table = 0; attrs = attrs; rects = (Full ∷ Nums (pos 30) (pos 40) ∷ Full ∷ []) ∷ [] } ∷ []

abbrev pub change : Row → Row → Change
change old new = record { table = 0; key = Num (pos 1); before = Some old; after = Some new }

-- A new text is told where the third column is held, and only there; a new number of the second column and a row that leaves are told.
pub record WorkedTouches : Type 0 where
  pub unheld : touches (entry 3) (change (row 1 35 97) (row 1 35 98)) ≡ false
  pub held : touches (entry 7) (change (row 1 35 97) (row 1 35 98)) ≡ true
  pub changed : touches (entry 3) (change (row 1 35 97) (row 1 36 97)) ≡ true
  pub left : touches (entry 3) (change (row 1 35 97) (row 1 41 97)) ≡ true
  pub elsewhere : touches (entry 3) (change (row 1 41 97) (row 1 42 97)) ≡ false
  pub over_wire_1 : touches (entry all_columns) (change (row 1 35 97) (row 1 35 98)) ≡ true
