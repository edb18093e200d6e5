-- A bound statement suits its table.
use Rattle.std.proofs.Common.{◌≡◌, ℕ, ◌<◌, Bool, true, false, List, [], ◌∷◌, ◌++◌, length, map, refl, sym, ap, ◌∙◌, arith, lt-ltb, eq-eqb}
use Rattle.std.specs.Prelude.{Option, Some, None, Result, Ok, Err, ◌==◌, ◌&&◌, not, nat_lt, bytes_eq, IsTrue, IfOk, if◌then◌else◌}
use Rattle.std.specs.List.{list_all}
use Rattle.std.specs.Cmp.Derive.{both_true}
use Rattle.std.proofs.lemmas.List.{length-map}
use Rattle.std.proofs.lemmas.List.Quantifiers.{position-Some}
use Rattle.sr_cell.specs.declared.list.No.{No}
use Rattle.sr_cell.specs.declared.fault.Fault.{Fault}
use Rattle.sr_cell.specs.declared.fault.Why.TheVariants.{WrongCount, KeyChange, Repeated}
use Rattle.sr_cell.specs.declared.table.Table.{Table}
use Rattle.sr_cell.specs.Cells.{Row}
use Rattle.sr_cell.specs.Columns.{table_at}
use Rattle.sr_cell.specs.Names.{table_named}
use Rattle.sr_cell.proofs.Results.{same_Ok}
use Rattle.sr_grammar.specs.declared.statement.Insert.{Insert}
use Rattle.sr_grammar.specs.declared.statement.LiteralRow.{LiteralRow}
use Rattle.sr_grammar.specs.declared.statement.Set.{Set}
use Rattle.sr_grammar.specs.Trees as tree
use Rattle.sr_model.specs.Conditions.{Cond}
use Rattle.sr_model.specs.Statements.{Write, Place, Insert as Inserting, Update as Updating, Delete as Deleting}
use Rattle.sr_query.specs.Binding.{fault, ◌>>=◌, each, column_named, column_at, is_among}
use Rattle.sr_query.specs.Writes.{table_known, typed, numbers_from, listed, typed_each, value_for, row_of, inserting, set_column, places_from, condition_in, updating, deleting, bound_write, suits}
use Rattle.sr_query.specs.declared.write.Write as declared
use Rattle.sr_query.specs.Decided.{Decides}
use Rattle.sr_query.specs.Written.{write_of}
use Rattle.sr_query.proofs.Steps.{split_ok, each-length, length-numbers_from}
use Rattle.sr_bind.proofs.Low.{column_within}

-- ---- the table

no_table : Table
no_table = record { name = []; columns = []; key = 0 }

known_within : (schema : List Table) (place t : ℕ) (name : List ℕ) → table_known place (table_named schema name) ≡ Ok t → t < length schema
known_within schema place t name e = go (table_named schema name) refl e
  where
    go : (o : Option ℕ) → table_named schema name ≡ o → table_known place o ≡ Ok t → t < length schema
    go None is e = absurd cc
    go (Some u) is e =
        let found = position-Some (λ (table : Table). bytes_eq name table.name) schema u no_table is in
        let same = same_Ok u t e in
        omega (arith, found.0, same)

-- ---- the rows of an INSERT

abbrev is_wide : Table → Row → Bool
is_wide t row = length row == length t.columns

row_wide : (t : Table) (columns : List ℕ) (r : LiteralRow) (row : Row) → row_of t columns r ≡ Ok row → is_wide t row ≡ true
row_wide t columns r row e = go (not (length r.literals == length columns)) e
  where
    go : (b : Bool) → (if b then fault WrongCount r.place else (typed_each t columns r.literals >>= λ values. Ok (map (λ c. value_for c columns values) (numbers_from 0 t.columns)))) ≡ Ok row
        → is_wide t row ≡ true
    go true e = absurd cc
    go false e =
        let made = split_ok (typed_each t columns r.literals) (λ values. Ok (map (λ c. value_for c columns values) (numbers_from 0 t.columns))) row e in
        let same = same_Ok _ row made.2 in
        eq-eqb (length row) (length t.columns) (sym (ap length same) ∙ (length-map (numbers_from 0 t.columns) (λ c. value_for c columns made.0) ∙ length-numbers_from 0 t.columns))

rows_wide : (t : Table) (columns : List ℕ) (rows : List LiteralRow) (made : List Row) → each (row_of t columns) rows ≡ Ok made → list_all (is_wide t) made ≡ true
rows_wide t columns [] made e = let none = same_Ok [] made e in rw (← none) refl
rows_wide t columns (r ∷ rows) made e =
    let first = split_ok (row_of t columns r) (λ b. each (row_of t columns) rows >>= λ bs. Ok (b ∷ bs)) made e in
    let others = split_ok (each (row_of t columns) rows) (λ bs. Ok (first.0 ∷ bs)) made first.2 in
    let same = same_Ok (first.0 ∷ others.0) made others.2 in
    rw (← same) (both_true (row_wide t columns r first.0 first.1) (rows_wide t columns rows others.0 others.1))

-- ---- the places of an UPDATE

abbrev is_free : Table → ℕ → Bool
is_free t c = nat_lt c (length t.columns) && not (c == t.key)

set_free : (t : Table) (named : List ℕ) (place c : ℕ) (name : List ℕ) → set_column t named place (column_named 0 t.columns name) ≡ Ok c → is_free t c ≡ true
set_free t named place c name e = go (column_named 0 t.columns name) refl e
  where
    by : (k : ℕ) (key among : Bool) → k < length t.columns → (k == t.key) ≡ key → (if key then fault KeyChange place else (if among then fault Repeated place else Ok k)) ≡ Ok c → is_free t c ≡ true
    by k true among within is e = absurd cc
    by k false true within is e = absurd cc
    by k false false within is e = let same = same_Ok k c e in rw (← same) (rw (lt-ltb k (length t.columns) within, is) refl)

    go : (o : Option ℕ) → column_named 0 t.columns name ≡ o → set_column t named place o ≡ Ok c → is_free t c ≡ true
    go None is e = absurd cc
    go (Some k) is e = by k (k == t.key) (is_among named k) (omega (arith, column_within 0 k t.columns name is)) refl e

places_free : (t : Table) (named : List ℕ) (sets : List Set) (places : List Place) → places_from t named sets ≡ Ok places → list_all (λ p. is_free t p.column) places ≡ true
places_free t named [] places e = let none = same_Ok [] places e in rw (← none) refl
places_free t named (s ∷ sets) places e =
    let column = split_ok (set_column t named s.name.place (column_named 0 t.columns s.name.column)) _ places e in
    let value = split_ok (typed (column_at t column.0).kind s.value) _ places column.2 in
    let others = split_ok (places_from t (named ++ column.0 ∷ []) sets) _ places value.2 in
    let same = same_Ok _ places others.2 in
    rw (← same) (both_true (set_free t named s.name.place column.0 s.name.column column.1) (places_free t (named ++ column.0 ∷ []) sets others.0 others.1))

-- ---- a statement

insert_suits : (schema : List Table) (s : Insert) (w : Write) → bound_write schema (tree.Inserts s) ≡ Ok w → suits schema w ≡ true
insert_suits schema s w e =
    let t = split_ok (table_known s.place (table_named schema s.table)) (inserting schema s) w e in
    let columns = split_ok (listed (table_at schema t.0) s.place s.columns) _ w t.2 in
    let rows = split_ok (each (row_of (table_at schema t.0) columns.0) s.rows) _ w columns.2 in
    let same = same_Ok _ w rows.2 in
    rw (← same) (both_true (lt-ltb t.0 (length schema) (known_within schema s.place t.0 s.table t.1)) (rows_wide (table_at schema t.0) columns.0 s.rows rows.0 rows.1))

update_suits : (schema : List Table) (s : tree.Update) (w : Write) → bound_write schema (tree.Updates s) ≡ Ok w → suits schema w ≡ true
update_suits schema s w e =
    let t = split_ok (table_known s.place (table_named schema s.table)) (updating schema s) w e in
    let places = split_ok (places_from (table_at schema t.0) [] s.sets) _ w t.2 in
    let condition = split_ok (condition_in schema t.0 s.filter) _ w places.2 in
    let same = same_Ok _ w condition.2 in
    rw (← same) (both_true (lt-ltb t.0 (length schema) (known_within schema s.place t.0 s.table t.1)) (places_free (table_at schema t.0) [] s.sets places.0 places.1))

delete_suits : (schema : List Table) (s : tree.Delete) (w : Write) → bound_write schema (tree.Deletes s) ≡ Ok w → suits schema w ≡ true
delete_suits schema s w e =
    let t = split_ok (table_known s.place (table_named schema s.table)) (deleting schema s) w e in
    let condition = split_ok (condition_in schema t.0 s.filter) _ w t.2 in
    let same = same_Ok _ w condition.2 in
    rw (← same) (both_true (lt-ltb t.0 (length schema) (known_within schema s.place t.0 s.table t.1)) refl)

pub bound_suits : (schema : List Table) (s : tree.Statement) (w : Write) → bound_write schema s ≡ Ok w → suits schema w ≡ true
bound_suits schema (tree.Create t) w e = absurd cc
bound_suits schema (tree.Selects s) w e = absurd cc
bound_suits schema (tree.Inserts s) w e = insert_suits schema s w e
bound_suits schema (tree.Updates s) w e = update_suits schema s w e
bound_suits schema (tree.Deletes s) w e = delete_suits schema s w e

-- so what is decided as it does
pub decided_suits : (schema : List Table) (s : tree.Statement) (r : Result declared.Write (No Fault)) → Decides write_of r (bound_write schema s) → IfOk r (λ w. IsTrue (suits schema (write_of w)))
decided_suits schema s (Ok w) told = bound_suits schema s (write_of w) told
decided_suits schema s (Err refusal) told = tt

-- ---- how many rows an INSERT has

same_rows : (t u : ℕ) (rows made : List Row) → Inserting t rows ≡ Inserting u made → rows ≡ made
same_rows t u rows made e = cc

not_update : (t u : ℕ) (places : List Place) (condition : Option Cond) (rows : List Row) → Updating t places condition ≡ Inserting u rows → ⊥
not_update t u places condition rows e = cc

not_delete : (t u : ℕ) (condition : Option Cond) (rows : List Row) → Deleting t condition ≡ Inserting u rows → ⊥
not_delete t u condition rows e = cc

-- each row is one of the statement's
pub bound_rows : (schema : List Table) (s : tree.Statement) (u : ℕ) (rows : List Row) → bound_write schema s ≡ Ok (Inserting u rows) → (i : Insert) × (s ≡ tree.Inserts i) × (length rows ≡ length i.rows)
bound_rows schema (tree.Create t) u rows e = absurd cc
bound_rows schema (tree.Selects s) u rows e = absurd cc
bound_rows schema (tree.Inserts s) u rows e =
    let t = split_ok (table_known s.place (table_named schema s.table)) (inserting schema s) (Inserting u rows) e in
    let columns = split_ok (listed (table_at schema t.0) s.place s.columns) _ (Inserting u rows) t.2 in
    let made = split_ok (each (row_of (table_at schema t.0) columns.0) s.rows) _ (Inserting u rows) columns.2 in
    let same = same_rows t.0 u made.0 rows (same_Ok _ (Inserting u rows) made.2) in
    (s, refl, sym (ap length same) ∙ each-length (row_of (table_at schema t.0) columns.0) s.rows made.0 made.1)
bound_rows schema (tree.Updates s) u rows e =
    let t = split_ok (table_known s.place (table_named schema s.table)) (updating schema s) (Inserting u rows) e in
    let places = split_ok (places_from (table_at schema t.0) [] s.sets) _ (Inserting u rows) t.2 in
    let condition = split_ok (condition_in schema t.0 s.filter) _ (Inserting u rows) places.2 in
    absurd (not_update t.0 u places.0 condition.0 rows (same_Ok _ (Inserting u rows) condition.2))
bound_rows schema (tree.Deletes s) u rows e =
    let t = split_ok (table_known s.place (table_named schema s.table)) (deleting schema s) (Inserting u rows) e in
    let condition = split_ok (condition_in schema t.0 s.filter) _ (Inserting u rows) t.2 in
    absurd (not_delete t.0 u condition.0 rows (same_Ok _ (Inserting u rows) condition.2))
