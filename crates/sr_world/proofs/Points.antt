-- The rows of stored tables are points, by key ascending.
use Rattle.std.proofs.Common.{◌≡◌, ℕ, true, List, [], ◌∷◌, length, refl, zero, suc}
use Rattle.std.specs.Prelude.{◌&&◌, nat_le}
use Rattle.std.specs.List.{list_all}
use Rattle.std.specs.Cmp.{first_so, second_so}
use Rattle.std.proofs.lemmas.Bool.{and_from}
use Rattle.sr_load.proofs.Files.{stored-length}
use Rattle.sr_cell.specs.declared.table.Column.{Column}
use Rattle.sr_cell.specs.declared.table.Table.{Table}
use Rattle.sr_cell.specs.Cells.{Row}
use Rattle.sr_cell.specs.Columns.{is_point, fits_columns, table_at, are_values}
use Rattle.sr_cell.proofs.Columns.{fits-point}
use Rattle.sr_model.specs.Queries.{rows_at}
use Rattle.sr_model.specs.SortedRows.{ascend}
use Rattle.sr_model.specs.Statements.{Tables}
use Rattle.sr_region.specs.Applied.{AreTables}
use Rattle.sr_tables.proofs.Ascending.{stored-ascending}
use Rattle.sr_tables.specs.Stored.{are_rows, are_stored}

rows-points : (columns : List Column) (rows : List Row) → list_all (fits_columns columns) rows ≡ true → list_all are_values rows ≡ true → list_all (is_point columns) rows ≡ true
rows-points columns [] fits values = refl
rows-points columns (row ∷ rows) fits values =
    and_from (is_point columns row) (list_all (is_point columns) rows)
    (fits-point columns row (first_so (fits_columns columns row) (list_all (fits_columns columns) rows) fits) (first_so (are_values row) (list_all are_values rows) values))
    (rows-points columns rows (second_so (fits_columns columns row) (list_all (fits_columns columns) rows) fits) (second_so (are_values row) (list_all are_values rows) values))

-- those of each table
stored-points : (schema : List Table) (tables : Tables) → are_stored schema tables ≡ true → list_all (list_all are_values) tables ≡ true
    → (t : ℕ) → list_all (is_point (table_at schema t).columns) (rows_at tables t) ≡ true
stored-points [] [] stored values t = refl
stored-points [] (rows ∷ tables) stored values t = absurd (cc)
stored-points (u ∷ schema) [] stored values t = absurd (cc)
stored-points (u ∷ schema) (rows ∷ tables) stored values zero =
    let own = first_so (ascend u.key rows && list_all (fits_columns u.columns) rows) (nat_le (length rows) 65536) (first_so (are_rows u rows) (are_stored schema tables) stored) in
    rows-points u.columns rows (second_so (ascend u.key rows) (list_all (fits_columns u.columns) rows) own) (first_so (list_all are_values rows) (list_all (list_all are_values) tables) values)
stored-points (u ∷ schema) (rows ∷ tables) stored values (suc t) =
    stored-points schema tables (second_so (are_rows u rows) (are_stored schema tables) stored) (second_so (list_all are_values rows) (list_all (list_all are_values) tables) values) t

-- they are tables
pub stored-tables : (schema : List Table) (tables : Tables) → are_stored schema tables ≡ true → list_all (list_all are_values) tables ≡ true → AreTables schema tables
stored-tables schema tables stored values =
    record { few = stored-length schema tables stored; points = stored-points schema tables stored values; ascending = stored-ascending schema tables stored }
