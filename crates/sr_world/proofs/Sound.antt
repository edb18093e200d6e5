-- What a server knows of its database is what clients need of it.
use Rattle.std.proofs.Common.{◌≡◌, ℕ, zero, suc, ◌<◌, ◌≤◌, Bool, true, List, [], ◌∷◌, length, refl, arith}
use Rattle.std.specs.Prelude.{◌&&◌, nat_le, slice_index_or}
use Rattle.std.specs.List.{list_all}
use Rattle.std.specs.Cmp.{first_so, second_so}
use Rattle.sr_cell.specs.declared.table.Table.{Table}
use Rattle.sr_cell.specs.Columns.{fits_columns, table_at, are_values}
use Rattle.sr_model.specs.Queries.{rows_at}
use Rattle.sr_model.specs.SortedRows.{ascend}
use Rattle.sr_model.specs.Statements.{Tables}
use Rattle.sr_tables.specs.Stored.{are_rows, are_stored}
use Rattle.sr_session.specs.Sessions.{Database, newest, tables_of}
use Rattle.sr_session.specs.Laws.{IsSound}
use Rattle.sr_server.specs.Servers as servers
use Rattle.sr_world.proofs.Points.{stored-tables}

stored-fits : (schema : List Table) (tables : Tables) → are_stored schema tables ≡ true → (t : ℕ) → list_all (fits_columns (table_at schema t).columns) (rows_at tables t) ≡ true
stored-fits [] [] stored t = refl
stored-fits [] (rows ∷ tables) stored t = absurd (cc)
stored-fits (u ∷ schema) [] stored t = absurd (cc)
stored-fits (u ∷ schema) (rows ∷ tables) stored zero =
    second_so (ascend u.key rows) (list_all (fits_columns u.columns) rows)
    (first_so (ascend u.key rows && list_all (fits_columns u.columns) rows) (nat_le (length rows) 65536) (first_so (are_rows u rows) (are_stored schema tables) stored))
stored-fits (u ∷ schema) (rows ∷ tables) stored (suc t) = stored-fits schema tables (second_so (are_rows u rows) (are_stored schema tables) stored) t

-- what holds of all holds of each
all-at : {X : Type 0} (test : X → Bool) (xs : List X) (i : ℕ) (d : X) → list_all test xs ≡ true → i < length xs → test (slice_index_or xs i d) ≡ true
all-at {X} test [] i d all within = absurd (omega (arith, within))
all-at {X} test (x ∷ xs) zero d all within = first_so (test x) (list_all test xs) all
all-at {X} test (x ∷ xs) (suc i) d all within = all-at test xs i d (second_so (test x) (list_all test xs) all) (omega (arith, within))

pub sound-of : (db : Database) → servers.IsSound db → IsSound db
sound-of db sound = record {
  some = sound.some;
  tables = λ v within. stored-tables db.schema (tables_of db v) (stored-at v within) (all-at (list_all (list_all are_values)) db.versions v [] sound.values (below v within));
  fits = λ v within t. stored-fits db.schema (tables_of db v) (stored-at v within) t;
}
  where
    below : (v : ℕ) → v ≤ newest db → v < length db.versions
    below v within = let some = sound.some in omega (arith, within, some)

    stored-at : (v : ℕ) → v ≤ newest db → are_stored db.schema (tables_of db v) ≡ true
    stored-at v within = all-at (are_stored db.schema) db.versions v [] sound.stored (below v within)
