-- Rows with new values in some columns.
use Rattle.std.proofs.Common.{◌≡◌, ◌≢◌, ℕ, zero, suc, Bool, true, false, not, ◌&&◌, List, [], ◌∷◌, map, length, refl, sym, ◌∙◌, arith}
use Rattle.std.specs.Prelude.{pos, ◌==◌, nat_lt, slice_set, slice_index_or, Option, Some, None, if◌then◌else◌}
use Rattle.std.specs.List.{list_all}
use Rattle.std.proofs.lemmas.List.{get_or-set_other}
use Rattle.std.proofs.lemmas.Bool.Decides.{nat_tests}
use Rattle.sr_cell.specs.declared.cell.Cell.{Cell}
use Rattle.sr_cell.specs.declared.cell.Cell.TheVariants.{Num}
use Rattle.sr_cell.specs.declared.table.Kind.TheVariants.{Str as Texts}
use Rattle.sr_cell.specs.declared.table.Column.{Column}
use Rattle.sr_cell.specs.declared.table.Table.{Table}
use Rattle.sr_cell.specs.Cells.{Row, cell_at}
use Rattle.sr_cell.specs.Columns.{takes_cell, fits_columns}
use Rattle.sr_model.specs.Conditions.{Cond}
use Rattle.sr_model.specs.Statements.{Place, column_of, meets, place_fault, places_fault, with_places, updated_row, is_changed}
use Rattle.sr_model.specs.SortedRows.{row_eq}
use Rattle.sr_rows.proofs.Elements.{row_eq-refl, row_eq-sound}
use Rattle.sr_tables.proofs.Inserts.{fits-kind, first_fault-none}

-- each place is a column of the table, and not the key
abbrev pub are_places : Table → List Place → Bool
are_places t places = list_all (λ (p : Place). nat_lt p.column (length t.columns) && not (p.column == t.key)) places

-- a key that no place is of stays

pub with_places-key : (t : Table) (places : List Place) (row : Row) → are_places t places ≡ true → cell_at (with_places places row) t.key ≡ cell_at row t.key
with_places-key t [] row h = refl
with_places-key t (p ∷ places) row h =
    let other : t.key ≢ p.column = λ e. absurd (grind (arith, nat_tests, e)) in
    with_places-key t places (slice_set row p.column p.value) (grind arith) ∙ get_or-set_other row p.column t.key p.value (Num (pos 0)) other

pub updated_row-key : (t : Table) (places : List Place) (c : Option Cond) → are_places t places ≡ true → (row : Row) → cell_at (updated_row places c row) t.key ≡ cell_at row t.key
updated_row-key t places c h row = go (meets c row)
  where
    go : (b : Bool) → cell_at (if b then with_places places row else row) t.key ≡ cell_at row t.key
    go true = with_places-key t places row h
    go false = refl

-- new values that can stand in their columns

fits-set : (columns : List Column) (row : Row) (c : ℕ) (v : Cell) (d : Column) → fits_columns columns row ≡ true → takes_cell (slice_index_or columns c d) v ≡ true
    → fits_columns columns (slice_set row c v) ≡ true
fits-set [] [] c v d h k = refl
fits-set [] (w ∷ row) c v d h k = absurd (cc)
fits-set (column ∷ columns) [] c v d h k = absurd (cc)
fits-set (column ∷ columns) (w ∷ row) zero v d h k = grind (arith, k)
fits-set (column ∷ columns) (w ∷ row) (suc c) v d h k = let ih = fits-set columns row c v d (grind arith) k in grind (arith, ih)

pub with_places-fits : (t : Table) (places : List Place) (row : Row) → places_fault t places ≡ None → fits_columns t.columns row ≡ true → fits_columns t.columns (with_places places row) ≡ true
with_places-fits t [] row none h = h
with_places-fits t (p ∷ places) row none h =
    let two = first_fault-none (place_fault t p) (places_fault t places) none in
    let column = column_of t p.column in
    let takes = fits-kind column.kind column.lo column.hi column.nullable p.column p.value two.0 in
    with_places-fits t places (slice_set row p.column p.value) two.1
    (fits-set t.columns row p.column p.value (record { name = []; kind = Texts; lo = pos 0; hi = pos 0; nullable = false }) h takes)

pub updated_row-fits : (t : Table) (places : List Place) (c : Option Cond) (row : Row) → places_fault t places ≡ None → fits_columns t.columns row ≡ true
    → fits_columns t.columns (updated_row places c row) ≡ true
updated_row-fits t places c row none h = go (meets c row)
  where
    go : (b : Bool) → fits_columns t.columns (if b then with_places places row else row) ≡ true
    go true = with_places-fits t places row none h
    go false = h

-- an UPDATE keeps that each row fits
pub updated-fits : (t : Table) (places : List Place) (c : Option Cond) → places_fault t places ≡ None → (rows : List Row) → list_all (λ row. fits_columns t.columns row) rows ≡ true
    → list_all (λ row. fits_columns t.columns row) (map (updated_row places c) rows) ≡ true
updated-fits t places c none [] h = refl
updated-fits t places c none (row ∷ rows) h =
    let one = updated_row-fits t places c row none (grind arith) in
    let ih = updated-fits t places c none rows (grind arith) in
    grind (arith, one, ih)

-- a row that is not changed stays
pub unchanged-same : (places : List Place) (c : Option Cond) (row : Row) → is_changed places c row ≡ false → updated_row places c row ≡ row
unchanged-same places c row h = sym (row_eq-sound row (updated_row places c row) (go (row_eq row (updated_row places c row)) h))
  where
    go : (b : Bool) → not b ≡ false → b ≡ true
    go true e = refl
    go false e = absurd (cc)

-- a row that the condition is not true of is not changed
pub changed-meets : (places : List Place) (c : Option Cond) (row : Row) → is_changed places c row ≡ true → meets c row ≡ true
changed-meets places c row h = go (meets c row) h
  where
    go : (b : Bool) → not (row_eq row (if b then with_places places row else row)) ≡ true → b ≡ true
    go true e = refl
    go false e = let same = row_eq-refl row in absurd (grind (arith, same))

-- a row that the condition is not true of is left
pub unmet-left : (places : List Place) (c : Option Cond) (row : Row) → meets c row ≡ false → (if is_changed places c row then Some (updated_row places c row) else None) ≡ None
unmet-left places c row h = let same = row_eq-refl row in rw (h, same) refl
