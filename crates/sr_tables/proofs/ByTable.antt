-- What holds of the rows of each table holds of one of them, and after one of them has changed.
use Rattle.std.proofs.Common.{◌≡◌, ℕ, ◌<◌, ◌&&◌, Bool, true, false, List, [], ◌∷◌, ◌++◌, ◌+◌, ◌≤◌, ◌∙◌, take, length, map, refl, sym, ap, subst, arith, zero, suc, IsTrue, Bor}
use Rattle.std.proofs.lemmas.Bool.{and_parts, and_from}
use Rattle.std.proofs.lemmas.Bool.Decides.{nat_tests}
use Rattle.std.proofs.lemmas.List.{take_more, take_all, map-append}
use Rattle.std.specs.Prelude.{nat_le, nat_lt, not, ◌==◌, slice_set, slice_index_or, Option, Some, None, IfSome, IfNone}
use Rattle.std.specs.Slice.{IsItemAt}
use Rattle.std.specs.List.{list_all, AllZip}
use Rattle.std.specs.Cmp.{first_so, second_so}
use Rattle.sr_cell.specs.declared.table.Table.{Table}
use Rattle.sr_cell.specs.Columns.{table_at, fits_columns}
use Rattle.sr_model.specs.Queries.{rows_at}
use Rattle.sr_model.specs.Statements as model
use Rattle.sr_model.specs.Statements.{Write}
use Rattle.sr_query.specs.declared.write.Place.{Place}
use Rattle.sr_query.specs.Written.{place_of}
use Rattle.sr_model.specs.SortedRows.{ascend}
use Rattle.sr_query.specs.Writes.{table_of, suits_table, suits}
use Rattle.sr_keyed.specs.Keyed.{Keyed}
use Rattle.sr_tables.specs.Stored.{IsKeyed, rows_in, no_rows, are_rows, are_few, are_stored}

pub zip-length : (schema : List Table) (all : List Keyed) → AllZip IsKeyed schema all → length all ≡ length schema
zip-length [] [] zip = refl
zip-length [] (k ∷ all) zip = absurd zip
zip-length (t ∷ schema) [] zip = absurd zip
zip-length (t ∷ schema) (k ∷ all) zip = omega (arith, zip-length schema all zip.1)

-- of the table of this number
pub zip-at : (schema : List Table) (all : List Keyed) (t : ℕ) (d : Keyed) → AllZip IsKeyed schema all → t < length schema → IsKeyed (table_at schema t) (slice_index_or all t d)
zip-at [] all t d zip known = absurd (omega (arith, known))
zip-at (table ∷ schema) [] t d zip known = absurd zip
zip-at (table ∷ schema) (j ∷ all) zero d zip known = zip.0
zip-at (table ∷ schema) (j ∷ all) (suc t) d zip known = zip-at schema all t d zip.1 (omega (arith, known))

pub zip-set : (schema : List Table) (all : List Keyed) (t : ℕ) (k : Keyed) → AllZip IsKeyed schema all → IsKeyed (table_at schema t) k → AllZip IsKeyed schema (slice_set all t k)
zip-set [] [] t k zip is = tt
zip-set [] (j ∷ all) t k zip is = absurd zip
zip-set (table ∷ schema) [] t k zip is = absurd zip
zip-set (table ∷ schema) (j ∷ all) zero k zip is = (is, zip.1)
zip-set (table ∷ schema) (j ∷ all) (suc t) k zip is = (zip.0, zip-set schema all t k zip.1 is)

-- the rows are those of the table of this number
pub rows-at : (all : List Keyed) (t : ℕ) (d : Keyed) → t < length all → rows_at (map (λ (k : Keyed). k.rows) all) t ≡ (slice_index_or all t d).rows
rows-at [] t d known = absurd (omega (arith, known))
rows-at (j ∷ all) zero d known = refl
rows-at (j ∷ all) (suc t) d known = rows-at all t d (omega (arith, known))

pub rows-none : (all : List Keyed) (t : ℕ) → length all ≤ t → rows_at (rows_in all) t ≡ []
rows-none [] t past = refl
rows-none (j ∷ all) zero past = absurd (omega (arith, past))
rows-none (j ∷ all) (suc t) past = rows-none all t (omega (arith, past))

-- what is read at this number, if there is so
pub read-at : (schema : List Table) (all : List Keyed) (t : ℕ) (r : Option (Bor Keyed)) → AllZip IsKeyed schema all → IsItemAt all t r
    → IfSome r (λ k. k.now.key ≡ (table_at schema t).key) × IfSome r (λ k. k.now.rows ≡ rows_at (rows_in all) t) × IfNone r (rows_at (rows_in all) t ≡ [])
read-at schema all t None zip is = (tt, tt, rows-none all t is.3)
read-at schema all t (Some k) zip is =
    let inside : t < length all = is.3.0 in
    let known : t < length schema = omega (arith, zip-length schema all zip, inside) in
    let own = zip-at schema all t k.now zip known in
    (ap (λ (j : Keyed). j.key) is.1 ∙ own.key, ap (λ (j : Keyed). j.rows) is.1 ∙ sym (rows-at all t k.now inside), tt)

pub rows-set : (all : List Keyed) (t : ℕ) (k : Keyed) → map (λ (k : Keyed). k.rows) (slice_set all t k) ≡ slice_set (map (λ (k : Keyed). k.rows) all) t k.rows
rows-set [] t k = refl
rows-set (j ∷ all) zero k = refl
rows-set (j ∷ all) (suc t) k = ap (λ tables. j.rows ∷ tables) (rows-set all t k)

-- ---- one table of all changes

pub there : (schema : List Table) (all : List Keyed) (t : ℕ) → AllZip IsKeyed schema all → t < length schema → t < length all
there schema all t zip known = omega (arith, zip-length schema all zip, known)

-- the statement is on one of the tables
pub known-of : (schema : List Table) (w : Write) → IsTrue (suits schema w) → table_of w < length schema
known-of schema w fits = let first : nat_lt (table_of w) (length schema) ≡ true = first_so (nat_lt (table_of w) (length schema)) (suits_table (table_at schema (table_of w)) w) fits in grind (arith, nat_tests)

-- and it suits that table
pub suits-of : (schema : List Table) (w : Write) → IsTrue (suits schema w) → IsTrue (suits_table (table_at schema (table_of w)) w)
suits-of schema w fits = second_so (nat_lt (table_of w) (length schema)) (suits_table (table_at schema (table_of w)) w) fits

pub places-suit : (table : Table) (sets : List Place) → IsTrue (list_all (λ (p : model.Place). nat_lt p.column (length table.columns) && not (p.column == table.key)) (map place_of sets))
    → IsTrue (list_all (λ (p : Place). nat_lt p.column (length table.columns) && not (p.column == table.key)) sets)
places-suit table [] all = refl
places-suit table (p ∷ sets) all = by (nat_lt p.column (length table.columns) && not (p.column == table.key)) all (places-suit table sets)
  where
    by : (b : Bool) → (b && list_all (λ (p : model.Place). nat_lt p.column (length table.columns) && not (p.column == table.key)) (map place_of sets)) ≡ true
        → (IsTrue (list_all (λ (p : model.Place). nat_lt p.column (length table.columns) && not (p.column == table.key)) (map place_of sets))
        → IsTrue (list_all (λ (p : Place). nat_lt p.column (length table.columns) && not (p.column == table.key)) sets))
        → (b && list_all (λ (p : Place). nat_lt p.column (length table.columns) && not (p.column == table.key)) sets) ≡ true
    by true all later = later all
    by false all later = all

-- ---- the rows of all tables

abbrev pub AllAscend : List Keyed → Type 0
AllAscend [] = Unit {0}
AllAscend (k ∷ all) = (ascend k.key k.rows ≡ true) × AllAscend all

pub ascend-more : (all : List Keyed) (k : Keyed) → AllAscend all → ascend k.key k.rows ≡ true → AllAscend (all ++ k ∷ [])
ascend-more [] k up one = (one, tt)
ascend-more (j ∷ all) k up one = (up.0, ascend-more all k up.1 one)

pub all-stored : (schema : List Table) (all : List Keyed) → AllZip IsKeyed schema all → AllAscend all → are_few (rows_in all) ≡ true → are_stored schema (rows_in all) ≡ true
all-stored [] [] zip up few = refl
all-stored [] (k ∷ all) zip up few = absurd zip
all-stored (t ∷ schema) [] zip up few = absurd zip
all-stored (t ∷ schema) (k ∷ all) zip up few =
    let each = and_parts (nat_le (length k.rows) 65536) (are_few (rows_in all)) few in
    and_from (are_rows t k.rows) (are_stored schema (rows_in all))
    (and_from (ascend t.key k.rows && list_all (fits_columns t.columns) k.rows) (nat_le (length k.rows) 65536)
    (and_from (ascend t.key k.rows) (list_all (fits_columns t.columns) k.rows) (subst (λ key. ascend key k.rows ≡ true) zip.0.key up.0) zip.0.fits) each.0)
    (all-stored schema all zip.1 up.1 each.1)

pub zip-more : (schema : List Table) (all : List Keyed) (t : Table) (k : Keyed) → AllZip IsKeyed schema all → IsKeyed t k → AllZip IsKeyed (schema ++ t ∷ []) (all ++ k ∷ [])
zip-more [] [] t k zip one = (one, tt)
zip-more [] (j ∷ all) t k zip one = absurd zip
zip-more (s ∷ schema) [] t k zip one = absurd zip
zip-more (s ∷ schema) (j ∷ all) t k zip one = (zip.0, zip-more schema all t k zip.1 one)

pub ascend-next : (all : List Keyed) (i : ℕ) (k : Keyed) → i < length all → k ≡ slice_index_or all i k → AllAscend (take i all) → ascend k.key k.rows ≡ true → AllAscend (take (i + 1) all)
ascend-next all i k inside is up one =
    subst AllAscend (sym (take_more all i k inside ∙ ap (λ j. take i all ++ j ∷ []) (sym is))) (ascend-more (take i all) k up one)

pub ascend-all : (all : List Keyed) (i : ℕ) → length all ≤ i → AllAscend (take i all) → AllAscend all
ascend-all all i end up = subst AllAscend (take_all i all end) up

-- the first tables have no rows
abbrev pub EmptySoFar : List Table → ℕ → List Keyed → Type 0
EmptySoFar tables i all = AllZip IsKeyed (take i tables) all × (rows_in all ≡ no_rows (take i tables))

pub empty-next : (tables : List Table) (i : ℕ) (t : Table) (all : List Keyed) (k : Keyed) (more : List Keyed) → i < length tables → t ≡ slice_index_or tables i t
    → EmptySoFar tables i all → IsKeyed t k → k.rows ≡ [] → more ≡ all ++ k ∷ [] → EmptySoFar tables (i + 1) more
empty-next tables i t all k more inside is so_far one none pushed =
    let front : take (i + 1) tables ≡ take i tables ++ t ∷ [] = take_more tables i t inside ∙ ap (λ u. take i tables ++ u ∷ []) (sym is) in
    let rows : rows_in (all ++ k ∷ []) ≡ no_rows (take i tables ++ t ∷ []) =
    map-append (λ (k : Keyed). k.rows) all (k ∷ []) ∙ (ap (λ front. front ++ k.rows ∷ []) so_far.1 ∙ (ap (λ rows. no_rows (take i tables) ++ rows ∷ []) none ∙ sym (map-append (λ t. []) (take i tables) (t ∷ [])))) in
    rw (front, pushed) (zip-more (take i tables) all t k so_far.0 one, rows)
