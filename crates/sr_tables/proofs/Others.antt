-- A statement changes one table, so the changes of a version are those of that table.
use Rattle.std.proofs.Common.{◌≡◌, ℕ, ◌+◌, ◌<◌, true, not, List, [], ◌∷◌, length, map, Option, Some, None, refl, ◌∙◌, ap, arith, zero, suc, append-nil}
use Rattle.std.specs.Prelude.{filter, slice_set}
use Rattle.sr_cell.specs.declared.change.Change.{Change}
use Rattle.sr_cell.specs.declared.table.Table.{Table}
use Rattle.sr_cell.specs.Cells.{Row, cell_at}
use Rattle.sr_cell.specs.Columns.{table_at}
use Rattle.sr_model.specs.Queries.{rows_at}
use Rattle.sr_model.specs.Statements.{Tables}
use Rattle.sr_model.specs.Changes.{row_with, same_row, all_keys, table_changes, changes_from, changes}
use Rattle.sr_rows.proofs.Elements.{row_eq-refl}

pub same_row-refl : (row : Option Row) → same_row row row ≡ true
same_row-refl None = refl
same_row-refl (Some row) = row_eq-refl row

-- a table that stays as it was has no changes
none-differ : (table : Table) (t : ℕ) (rows keys : List Row)
    → filter (λ (c : Change). not (same_row c.before c.after))
    (map (λ row. record { table = t; key = cell_at row table.key; before = row_with table.key (cell_at row table.key) rows; after = row_with table.key (cell_at row table.key) rows }) keys)
    ≡ []
none-differ table t rows [] = refl
none-differ table t rows (row ∷ keys) = rw (same_row-refl (row_with table.key (cell_at row table.key) rows)) (none-differ table t rows keys)

pub unchanged : (table : Table) (t : ℕ) (rows : List Row) → table_changes table t rows rows ≡ []
unchanged table t rows = none-differ table t rows (all_keys table.key rows rows)

pub all-unchanged : (n : ℕ) (schema : List Table) (tables : Tables) → changes_from n schema tables tables ≡ []
all-unchanged n [] [] = refl
all-unchanged n [] (rows ∷ tables) = refl
all-unchanged n (table ∷ schema) [] = refl
all-unchanged n (table ∷ schema) (rows ∷ tables) = rw (unchanged table n rows) (all-unchanged (n + 1) schema tables)

one-from : (n : ℕ) (schema : List Table) (tables : Tables) (t : ℕ) (rows : List Row) → t < length schema → t < length tables
    → changes_from n schema tables (slice_set tables t rows) ≡ table_changes (table_at schema t) (n + t) (rows_at tables t) rows
one-from n [] tables t rows known there = absurd (omega (arith, known))
one-from n (table ∷ schema) [] t rows known there = absurd (omega (arith, there))
one-from n (table ∷ schema) (old ∷ tables) zero rows known there =
    let number : n + 0 ≡ n = omega arith in
    rw (all-unchanged (n + 1) schema tables, number) (append-nil (table_changes table n old rows))
one-from n (table ∷ schema) (old ∷ tables) (suc t) rows known there =
    let number : n + 1 + t ≡ n + suc t = omega arith in
    rw (unchanged table n old) (one-from (n + 1) schema tables t rows (omega (arith, known)) (omega (arith, there)) ∙ ap (λ k. table_changes (table_at schema t) k (rows_at tables t) rows) number)

-- the changes of a version where one table has other rows
pub one-changed : (schema : List Table) (tables : Tables) (t : ℕ) (rows : List Row) → t < length schema → t < length tables
    → changes schema tables (slice_set tables t rows) ≡ table_changes (table_at schema t) t (rows_at tables t) rows
unfolding changes
one-changed schema tables t rows known there =
    let number : 0 + t ≡ t = omega arith in
    one-from 0 schema tables t rows known there ∙ ap (λ k. table_changes (table_at schema t) k (rows_at tables t) rows) number
