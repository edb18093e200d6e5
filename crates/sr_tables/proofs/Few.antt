-- No statement and no load makes a table of more rows than it may have.
use Rattle.std.proofs.Common.{◌≡◌, ℕ, zero, suc, ◌+◌, ◌<◌, ◌≤◌, Bool, true, false, List, [], ◌∷◌, length, map, refl, sym, ap, subst, arith, Ok, Err, Some, None}
use Rattle.std.specs.Prelude.{Result, Option, OnOk, OnErr, not, nat_lt, nat_le, filter, slice_set, slice_index_or, if◌then◌else◌}
use Rattle.std.proofs.lemmas.Bool.{and_parts}
use Rattle.std.proofs.lemmas.Bool.Decides.{nat_tests}
use Rattle.std.proofs.lemmas.List.{length-map}
use Rattle.std.specs.Cmp.Derive.{both_true}
use Rattle.sr_cell.specs.declared.fault.Fault.{Fault}
use Rattle.sr_cell.specs.declared.fault.Why.TheVariants.{TableFull, TooManyChanges}
use Rattle.sr_cell.specs.declared.table.Table.{Table}
use Rattle.sr_cell.specs.Cells.{Row}
use Rattle.sr_cell.specs.Columns.{table_at}
use Rattle.sr_keyed.specs.Keyed.{Keyed}
use Rattle.sr_model.specs.Queries.{rows_at}
use Rattle.sr_model.specs.SortedRows.{with_row}
use Rattle.sr_model.specs.Conditions.{Cond}
use Rattle.sr_model.specs.Statements.{Tables, Write, Insert, Update, Delete, Place, fault_of_row, first_fault, or_else, places_fault, updated_row, is_changed, meets, within_limits, within_changes, inserted, updated, deleted, with_table, executed}
use Rattle.sr_model.specs.Loads.{room_fault, load_fault, row_loaded}
use Rattle.sr_tables.specs.Stored.{are_few, rows_in, no_rows, with_loaded}
use Rattle.sr_tables.proofs.Inserts.{length-with_row}

few-test : (n : ℕ) → n ≤ 65536 → nat_le n 65536 ≡ true
few-test n few = grind (arith, nat_tests, few)

few-is : (n : ℕ) → nat_le n 65536 ≡ true → n ≤ 65536
few-is n few = grind (arith, nat_tests, few)

-- ---- the rows of one table

same-rows : (a b : List Row) → (let here : Result (List Row) Fault = Ok a in here) ≡ Ok b → a ≡ b
same-rows a b e = cc

if-ok : (b : Bool) (fault : Fault) (rest : Result (List Row) Fault) (new : List Row) → (if b then Err fault else rest) ≡ Ok new → (b ≡ false) × (rest ≡ Ok new)
if-ok true fault rest new e = absurd (cc)
if-ok false fault rest new e = (refl, e)

if-none : (b : Bool) (fault : Fault) → (if b then None else Some fault) ≡ None → b ≡ true
if-none true fault e = refl
if-none false fault e = absurd (cc)

within-few : (changes : ℕ) (rows new : List Row) → within_limits changes rows ≡ Ok new → length new ≤ 65536
within-few changes rows new e =
    let full : Fault = record { why = TableFull; at = 65536 } in
    let many : Fault = record { why = TooManyChanges; at = changes } in
    let room = if-ok (nat_lt 65536 (length rows)) full (if nat_lt 10000 changes then Err many else Ok rows) new e in
    let rest = if-ok (nat_lt 10000 changes) many (Ok rows) new room.1 in
    let same = ap length (same-rows rows new rest.1) in
    let is = room.0 in
    let few : length rows ≤ 65536 = grind (arith, nat_tests, is) in omega (arith, same, few)

or-else : (fault : Option Fault) (rest : Result (List Row) Fault) (new : List Row) → or_else fault rest ≡ Ok new → rest ≡ Ok new
or-else (Some fault) rest new e = absurd (cc)
or-else None rest new e = e

inserted-few : (table : Table) (i : ℕ) (more rows new : List Row) → inserted table i more rows ≡ Ok new → length new ≤ 65536
inserted-few table i [] rows new e = within-few i rows new e
inserted-few table i (row ∷ more) rows new e =
    inserted-few table (i + 1) more (with_row table.key rows row) new (or-else (fault_of_row table i rows row) (inserted table (i + 1) more (with_row table.key rows row)) new e)

changed-same : (changes : ℕ) (rows new : List Row) → within_changes changes rows ≡ Ok new → rows ≡ new
changed-same changes rows new e =
    let many : Fault = record { why = TooManyChanges; at = changes } in same-rows rows new (if-ok (nat_lt 10000 changes) many (Ok rows) new e).1

pub filter-few : (p : Row → Bool) (rows : List Row) → length (filter p rows) ≤ length rows
filter-few p [] = omega arith
filter-few p (row ∷ rows) = go (p row) (filter-few p rows)
  where
    go : (b : Bool) → length (filter p rows) ≤ length rows → length (if b then row ∷ filter p rows else filter p rows) ≤ suc (length rows)
    go true few = omega (arith, few)
    go false few = omega (arith, few)

updated-few : (table : Table) (places : List Place) (c : Option Cond) (rows new : List Row) → updated table places c rows ≡ Ok new → length rows ≤ 65536 → length new ≤ 65536
updated-few table places c rows new e few =
    let rest = or-else (places_fault table places) (within_changes (length (filter (is_changed places c) rows)) (map (updated_row places c) rows)) new e in
    let same = ap length (changed-same (length (filter (is_changed places c) rows)) (map (updated_row places c) rows) new rest) in
    let as_many = length-map rows (updated_row places c) in omega (arith, same, as_many, few)

deleted-few : (c : Option Cond) (rows new : List Row) → deleted c rows ≡ Ok new → length rows ≤ 65536 → length new ≤ 65536
deleted-few c rows new e few =
    let left : List Row = filter (λ row. not (meets c row)) rows in
    let same = ap length (changed-same (length (filter (meets c) rows)) left new e) in
    let fewer = filter-few (λ row. not (meets c row)) rows in omega (arith, same, fewer, few)

no-fault : (a b : Option Fault) → first_fault a b ≡ None → b ≡ None
no-fault (Some fault) b e = absurd (cc)
no-fault None b e = e

loaded-few : (table : Table) (row : Row) (rows new : List Row) → row_loaded table row rows ≡ Ok new → length new ≤ 65536
loaded-few table row rows new e = go (load_fault table rows row) refl e
  where
    go : (fault : Option Fault) → load_fault table rows row ≡ fault → or_else fault (Ok (with_row table.key rows row)) ≡ Ok new → length new ≤ 65536
    go (Some fault) is e = absurd (cc)
    go None is e =
        let full : Fault = record { why = TableFull; at = 65536 } in
        let room = if-none (nat_lt (length rows) 65536) full (no-fault (fault_of_row table 0 rows row) (room_fault rows) is) in
        let fits : length rows < 65536 = grind (arith, nat_tests, room) in
        let same = ap length (same-rows (with_row table.key rows row) new e) in
        let more = length-with_row table.key rows row in omega (arith, fits, same, more)

-- ---- all tables

few-at : (tables : Tables) (t : ℕ) → are_few tables ≡ true → length (rows_at tables t) ≤ 65536
few-at [] t few = omega arith
few-at (rows ∷ tables) zero few = few-is (length rows) (and_parts (nat_le (length rows) 65536) (are_few tables) few).0
few-at (rows ∷ tables) (suc t) few = few-at tables t (and_parts (nat_le (length rows) 65536) (are_few tables) few).1

few-set : (tables : Tables) (t : ℕ) (new : List Row) → are_few tables ≡ true → length new ≤ 65536 → are_few (slice_set tables t new) ≡ true
few-set [] t new few one = refl
few-set (rows ∷ tables) zero new few one = both_true (few-test (length new) one) (and_parts (nat_le (length rows) 65536) (are_few tables) few).1
few-set (rows ∷ tables) (suc t) new few one =
    let p = and_parts (nat_le (length rows) 65536) (are_few tables) few in both_true p.0 (few-set tables t new p.1 one)

few-with : (tables new : Tables) (t : ℕ) (result : Result (List Row) Fault) → with_table tables t result ≡ Ok new → are_few tables ≡ true → ((rows : List Row) → result ≡ Ok rows → length rows ≤ 65536)
    → are_few new ≡ true
few-with tables new t (Ok rows) e few one = let same : slice_set tables t rows ≡ new = cc in subst (λ all. are_few all ≡ true) same (few-set tables t rows few (one rows refl))
few-with tables new t (Err fault) e few one = absurd (cc)

pub few-executed : (schema : List Table) (w : Write) (tables new : Tables) → executed schema w tables ≡ Ok new → are_few tables ≡ true → are_few new ≡ true
few-executed schema (Insert t rows) tables new e few = few-with tables new t _ e few (λ rows done. inserted-few (table_at schema t) 0 _ (rows_at tables t) rows done)
few-executed schema (Update t places c) tables new e few =
    few-with tables new t _ e few (λ rows done. updated-few (table_at schema t) places c (rows_at tables t) rows done (few-at tables t few))
few-executed schema (Delete t c) tables new e few = few-with tables new t _ e few (λ rows done. deleted-few c (rows_at tables t) rows done (few-at tables t few))

few-loaded : (schema : List Table) (t : ℕ) (row : Row) (tables new : Tables) → with_loaded schema t row tables ≡ Ok new → are_few tables ≡ true → are_few new ≡ true
few-loaded schema t row tables new e few = few-with tables new t _ e few (λ rows done. loaded-few (table_at schema t) row (rows_at tables t) rows done)

-- after a statement, also where it is refused
pub few_written : {T E : Type 0} (result : Result T E) (schema : List Table) (w : Write) (old new : List Keyed) → OnOk result (executed schema w (rows_in old) ≡ Ok (rows_in new)) → OnErr result (new ≡ old)
    → are_few (rows_in old) ≡ true → are_few (rows_in new) ≡ true
few_written (Ok x) schema w old new done same few = few-executed schema w (rows_in old) (rows_in new) done few
few_written (Err e) schema w old new done same few = subst (λ all. are_few (rows_in all) ≡ true) (sym same) few

-- after a row, also where it is refused
pub few_after_load : {T E : Type 0} (result : Result T E) (schema : List Table) (t : ℕ) (row : Row) (old new : List Keyed) → OnOk result (with_loaded schema t row (rows_in old) ≡ Ok (rows_in new)) → OnErr result (new ≡ old)
    → are_few (rows_in old) ≡ true → are_few (rows_in new) ≡ true
few_after_load (Ok x) schema t row old new done same few = few-loaded schema t row (rows_in old) (rows_in new) done few
few_after_load (Err e) schema t row old new done same few = subst (λ all. are_few (rows_in all) ≡ true) (sym same) few

pub few_empty : (schema : List Table) → are_few (no_rows schema) ≡ true
few_empty [] = refl
few_empty (t ∷ schema) = few_empty schema

-- of one of the tables
pub few-of : (all : List Keyed) (t : ℕ) (d : Keyed) → t < length all → are_few (rows_in all) ≡ true → length (slice_index_or all t d).rows ≤ 65536
few-of [] t d within few = absurd (omega (arith, within))
few-of (k ∷ all) zero d within few = few-is (length k.rows) (and_parts (nat_le (length k.rows) 65536) (are_few (rows_in all)) few).0
few-of (k ∷ all) (suc t) d within few = few-of all t d (omega (arith, within)) (and_parts (nat_le (length k.rows) 65536) (are_few (rows_in all)) few).1

-- changes of some of the rows
pub few-changes : {X : Type 0} (change : Row → X) (p : Row → Bool) (rows : List Row) (changes : List X) → changes ≡ map change (filter p rows) → length rows ≤ 65536 → length changes ≤ 65536
few-changes change p rows changes are few =
    let same = ap length are in let as_many = length-map (filter p rows) change in let fewer = filter-few p rows in omega (arith, same, as_many, fewer, few)
