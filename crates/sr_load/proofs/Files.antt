-- The rows of a file that go into a table one after another, and files one after another.
use Rattle.std.proofs.Common.{◌≡◌, ℕ, zero, suc, ◌+◌, ◌<◌, true, List, [], ◌∷◌, length, Ok, Err, Some, None, refl, sym, ap, ◌∙◌, arith, drop, drop-cons}
use Rattle.std.proofs.lemmas.List.{get_or-set_same}
use Rattle.std.specs.Prelude.{Option, Result, slice_set, slice_index_or}
use Rattle.std.specs.Cmp.{second_so}
use Rattle.sr_cell.specs.declared.fault.Fault.{Fault}
use Rattle.sr_cell.specs.declared.table.Table.{Table}
use Rattle.sr_cell.specs.Cells.{Row}
use Rattle.sr_cell.specs.Columns.{table_at}
use Rattle.sr_cell.proofs.Results.{same_Ok}
use Rattle.sr_model.specs.Loads.{load_fault, of_record, rows_loaded}
use Rattle.sr_model.specs.Queries.{rows_at}
use Rattle.sr_model.specs.SortedRows.{with_row}
use Rattle.sr_model.specs.Statements.{Tables, or_else, with_table}
use Rattle.sr_load.specs.declared.fill.Load.{Load}
use Rattle.sr_load.specs.declared.fill.LoadFault.{LoadFault}
use Rattle.sr_load.specs.Filling.{of_file, with_file, filled}
use Rattle.sr_tables.specs.Stored.{are_rows, are_stored, with_loaded}

-- each table has its rows
pub stored-length : (schema : List Table) (tables : Tables) → are_stored schema tables ≡ true → length tables ≡ length schema
stored-length [] [] stored = refl
stored-length [] (rows ∷ tables) stored = absurd (cc)
stored-length (t ∷ schema) [] stored = absurd (cc)
stored-length (t ∷ schema) (rows ∷ tables) stored =
    let more = stored-length schema tables (second_so (are_rows t rows) (are_stored schema tables) stored) in
    omega (arith, more)

-- of a table's rows the last that were put there count
set-again : (tables : Tables) (t : ℕ) (rows last : List Row) → slice_set (slice_set tables t rows) t last ≡ slice_set tables t last
set-again [] t rows last = refl
set-again (r ∷ tables) zero rows last = refl
set-again (r ∷ tables) (suc t) rows last = ap (λ others. r ∷ others) (set-again tables t rows last)

set-length : (tables : Tables) (t : ℕ) (rows : List Row) → length (slice_set tables t rows) ≡ length tables
set-length [] t rows = refl
set-length (r ∷ tables) zero rows = refl
set-length (r ∷ tables) (suc t) rows = ap suc (set-length tables t rows)

with-again : (tables : Tables) (t : ℕ) (rows : List Row) (r : Result (List Row) Fault) → with_table (slice_set tables t rows) t r ≡ with_table tables t r
with-again tables t rows (Ok last) = ap Ok (set-again tables t rows last)
with-again tables t rows (Err fault) = refl

-- the tables after a row have it in place of those that were there
loaded-none : (tables new : Tables) (t : ℕ) (rows : List Row) (f : Option Fault) → with_table tables t (or_else f (Ok rows)) ≡ Ok new → (f ≡ None) × (slice_set tables t rows ≡ new)
loaded-none tables new t rows None e = (refl, same_Ok (slice_set tables t rows) new e)
loaded-none tables new t rows (Some fault) e = absurd (cc)

pub one-loaded-length : (schema : List Table) (t : ℕ) (row : Row) (tables new : Tables) → with_loaded schema t row tables ≡ Ok new → length new ≡ length tables
one-loaded-length schema t row tables new e =
    let rows = rows_at tables t in
    let is = loaded-none tables new t (with_row (table_at schema t).key rows row) (load_fault (table_at schema t) rows row) e in
    ap length (sym is.1) ∙ set-length tables t (with_row (table_at schema t).key rows row)

-- a row that is loaded leaves the others to be loaded
pub one-loaded : (schema : List Table) (t n : ℕ) (row : Row) (more : List Row) (tables new : Tables) → t < length tables → with_loaded schema t row tables ≡ Ok new
    → with_table tables t (rows_loaded (table_at schema t) n (row ∷ more) (rows_at tables t)) ≡ with_table new t (rows_loaded (table_at schema t) (n + 1) more (rows_at new t))
one-loaded schema t n row more tables new there e =
    let table = table_at schema t in
    let rows = rows_at tables t in
    let after = with_row table.key rows row in
    let is = loaded-none tables new t after (load_fault table rows row) e in
    ap (λ (f : Option Fault). with_table tables t (or_else (of_record n f) (rows_loaded table (n + 1) more after))) is.0
    ∙ sym (with-again tables t after (rows_loaded table (n + 1) more after))
    ∙ ap (λ now. with_table (slice_set tables t after) t (rows_loaded table (n + 1) more now)) (sym (get_or-set_same tables t after [] there))
    ∙ ap (λ all. with_table all t (rows_loaded table (n + 1) more (rows_at all t))) is.1

-- ---- files

-- a file that is refused is the fault of those that are left
pub file-refused : (schema : List Table) (loads : List Load) (i : ℕ) (file : Load) (tables : Tables) (whole : LoadFault) → i < length loads → file ≡ slice_index_or loads i file
    → with_file schema file tables ≡ Err whole.fault → whole.table ≡ file.table → filled schema (drop i loads) tables ≡ Err whole
file-refused schema loads i file tables whole inside is refused name =
    let more = drop (suc i) loads in
    let first : drop i loads ≡ file ∷ more = drop-cons loads i file inside ∙ ap (λ (f : Load). f ∷ more) (sym is) in
    ap (λ rest. filled schema rest tables) first
    ∙ ap (λ (r : Result Tables Fault). of_file file.table r (filled schema more)) refused
    ∙ ap (λ table. Err (record { table = table; fault = whole.fault })) (sym name)
