-- The rows of stored tables stand by key ascending.
use Rattle.std.proofs.Common.{◌≡◌, ℕ, true, List, [], ◌∷◌, length, refl, zero, suc}
use Rattle.std.specs.Prelude.{◌&&◌, nat_le}
use Rattle.std.specs.List.{list_all}
use Rattle.std.specs.Cmp.{first_so, second_so}
use Rattle.sr_cell.specs.declared.table.Table.{Table}
use Rattle.sr_cell.specs.Columns.{fits_columns, table_at}
use Rattle.sr_model.specs.Queries.{rows_at}
use Rattle.sr_model.specs.SortedRows.{ascend}
use Rattle.sr_model.specs.Statements.{Tables}
use Rattle.sr_tables.specs.Stored.{are_rows, are_stored}

pub stored-ascending : (schema : List Table) (tables : Tables) → are_stored schema tables ≡ true → (t : ℕ) → ascend (table_at schema t).key (rows_at tables t) ≡ true
stored-ascending [] [] stored t = refl
stored-ascending [] (rows ∷ tables) stored t = absurd (cc)
stored-ascending (u ∷ schema) [] stored t = absurd (cc)
stored-ascending (u ∷ schema) (rows ∷ tables) stored zero =
    first_so (ascend u.key rows) (list_all (fits_columns u.columns) rows)
    (first_so (ascend u.key rows && list_all (fits_columns u.columns) rows) (nat_le (length rows) 65536) (first_so (are_rows u rows) (are_stored schema tables) stored))
stored-ascending (u ∷ schema) (rows ∷ tables) stored (suc t) = stored-ascending schema tables (second_so (are_rows u rows) (are_stored schema tables) stored) t
