-- What is done to the rows of one table is done to the tables.
use Rattle.std.proofs.Common.{◌≡◌, ℕ, ◌<◌, List, length, Ok, Err, refl, sym, ap, arith}
use Rattle.std.proofs.lemmas.List.{length-map}
use Rattle.std.specs.Prelude.{Result, slice_index_or, slice_set, IfOk, OnOk, IsErrOf}
use Rattle.std.specs.List.{AllZip}
use Rattle.sr_cell.specs.declared.list.No.{No}
use Rattle.sr_cell.specs.declared.list.No.TheVariants.{Refused}
use Rattle.sr_cell.specs.declared.change.Change.{Change}
use Rattle.sr_cell.specs.declared.fault.Fault.{Fault}
use Rattle.sr_cell.specs.declared.table.Table.{Table}
use Rattle.sr_cell.specs.Cells.{Row}
use Rattle.sr_cell.specs.Columns.{table_at}
use Rattle.sr_model.specs.Queries.{rows_at}
use Rattle.sr_model.specs.Statements.{with_table}
use Rattle.sr_model.specs.Changes.{table_changes, changes}
use Rattle.sr_keyed.specs.Keyed.{Keyed}
use Rattle.sr_tables.specs.Stored.{IsKeyed, rows_in}
use Rattle.sr_tables.proofs.ByTable.{rows-at, rows-set, there}
use Rattle.sr_tables.proofs.Others.{one-changed}

pub done : {A E : Type 0} (r : Result A E) (all : List Keyed) (t : ℕ) (d old new : Keyed) (of : List Row → Result (List Row) Fault)
    → t < length all → old ≡ slice_index_or all t d → IfOk r (λ _. of old.rows ≡ Ok new.rows) → OnOk r (with_table (rows_in all) t (of (rows_at (rows_in all) t)) ≡ Ok (rows_in (slice_set all t new)))
done (Err e) all t d old new of known is did = tt
done (Ok a) all t d old new of known is did = rw (rows-at all t d known, ← is, did) (ap Ok (sym (rows-set all t new)))

pub changed : {E : Type 0} (r : Result (List Change) E) (schema : List Table) (all : List Keyed) (t : ℕ) (d old new : Keyed) (table : Table)
    → AllZip IsKeyed schema all → t < length schema → table ≡ table_at schema t → old ≡ slice_index_or all t d
    → IfOk r (λ made. made ≡ table_changes table t old.rows new.rows) → IfOk r (λ made. made ≡ changes schema (rows_in all) (rows_in (slice_set all t new)))
changed (Err e) schema all t d old new table zip known one is made = tt
changed (Ok a) schema all t d old new table zip known one is made =
    let within : t < length all = there schema all t zip known in
    let inside : t < length (rows_in all) = omega (arith, within, length-map all (λ (k : Keyed). k.rows)) in
    rw (rows-set all t new, one-changed schema (rows_in all) t new.rows known inside, rows-at all t d within, ← is, ← one) made

pub refused : {A : Type 0} (r : Result A (No Fault)) (all : List Keyed) (t : ℕ) (d old : Keyed) (of : List Row → Result (List Row) Fault)
    → t < length all → old ≡ slice_index_or all t d → ((fault : Fault) → IsErrOf r (Refused fault) → of old.rows ≡ Err fault)
    → (fault : Fault) → IsErrOf r (Refused fault) → with_table (rows_in all) t (of (rows_at (rows_in all) t)) ≡ Err fault
refused r all t d old of known is refuses fault err = rw (rows-at all t d known, ← is, refuses fault err) refl
