-- Rows of a table stay rows of it.
use Rattle.std.proofs.Common.{◌≡◌, ℕ, suc, ◌+◌, ◌<◌, Bool, true, false, List, [], ◌∷◌, length, refl, sym, ap, ◌∙◌, arith}
use Rattle.std.specs.Prelude.{None, pos}
use Rattle.std.specs.List.{list_all}
use Rattle.sr_cell.specs.declared.cell.Cell.{Cell}
use Rattle.sr_cell.specs.declared.table.Kind.{Kind}
use Rattle.sr_cell.specs.declared.table.Kind.TheVariants.{Str as Texts}
use Rattle.sr_cell.specs.declared.table.Column.{Column}
use Rattle.sr_cell.specs.declared.table.Table.{Table}
use Rattle.sr_cell.specs.Cells.{Row, cell_at}
use Rattle.sr_cell.specs.Columns.{fits_columns}
use Rattle.sr_model.specs.SortedRows.{ascend, has_key, with_row, with_rows}
use Rattle.sr_model.specs.Statements.{fault_of_row, first_fault}
use Rattle.sr_rows.specs.Places.{is_apart}
use Rattle.sr_rows.proofs.Order.{ascend-tail, ascend-first}
use Rattle.sr_rows.proofs.Elements.{list_all-with_row, apart-next}
use Rattle.sr_keyed.specs.Keyed.{Keyed, is_of}
use Rattle.sr_tables.specs.Stored.{IsKeyed}
use Rattle.sr_tables.specs.Inserts.{fault_from, are_apart}
use Rattle.sr_tables.proofs.Inserts.{list_all-rows, apart-fits, apart-ascend, has_key_with_rows}
use Rattle.sr_tables.proofs.Inserting.{apart-each, apart-alone, with_rows-among}
use Rattle.sr_tables.proofs.Ends.{fits-kind_of}

pub all_first : (p : Row → Bool) (row : Row) (rows : List Row) → list_all p (row ∷ rows) ≡ true → p row ≡ true
all_first p row rows h = grind arith

pub all_rest : (p : Row → Bool) (row : Row) (rows : List Row) → list_all p (row ∷ rows) ≡ true → list_all p rows ≡ true
all_rest p row rows h = grind arith

pub apart_first : (key : ℕ) (rows : List Row) (row : Row) (more : List Row) → are_apart key rows (row ∷ more) ≡ true → is_apart key rows row ≡ true
apart_first key rows row more h = grind arith

pub apart_rest : (key : ℕ) (rows : List Row) (row : Row) (more : List Row) → are_apart key rows (row ∷ more) ≡ true → are_apart key (with_row key rows row) more ≡ true
apart_rest key rows row more h = grind arith

pub same_keyed : (k : Keyed) (key : ℕ) (kind : Kind) (rows : List Row) → k.key ≡ key → k.kind ≡ kind → k.rows ≡ rows → k ≡ record { key = key; kind = kind; rows = rows }
same_keyed k key kind rows a b c =
    ap (λ n. record { key = n; kind = k.kind; rows = k.rows }) a ∙ ap (λ x. record { key = key; kind = x; rows = k.rows }) b
    ∙ ap (λ xs. record { key = key; kind = kind; rows = xs }) c

-- a row that fits has a key of the rows' kind
pub key-kind : (t : Table) (k : Keyed) (row : Row) → IsKeyed t k → t.key < length t.columns → fits_columns t.columns row ≡ true → is_of k.kind (cell_at row k.key) ≡ true
key-kind t k row keyed below fits =
    let is = fits-kind_of t.columns t.key row (record { name = []; kind = Texts; lo = pos 0; hi = pos 0; nullable = false }) below fits in
    let key = keyed.key in
    let kind = keyed.kind in
    cc

pub fits_columns-long : (columns : List Column) (row : Row) → fits_columns columns row ≡ true → length row ≡ length columns
fits_columns-long [] [] h = refl
fits_columns-long [] (v ∷ row) h = absurd (cc)
fits_columns-long (c ∷ columns) [] h = absurd (cc)
fits_columns-long (c ∷ columns) (v ∷ row) h = ap suc (fits_columns-long columns row (grind arith))

pub key-within : (t : Table) (k : Keyed) (row : Row) → IsKeyed t k → t.key < length t.columns → fits_columns t.columns row ≡ true → k.key < length row
key-within t k row keyed below fits =
    let long = fits_columns-long t.columns row fits in
    let key = keyed.key in
    omega arith

-- one row more
pub keyed-row : (t : Table) (k : Keyed) (row : Row) → IsKeyed t k → fits_columns t.columns row ≡ true → IsKeyed t (record k { rows = with_row k.key k.rows row })
keyed-row t k row keyed fits =
    record { key = keyed.key; kind = keyed.kind; fits = list_all-with_row (fits_columns t.columns) k.key k.rows row keyed.fits fits }

-- ---- a statement's rows, one behind another

pub fresh-lacks : (key : ℕ) (v : Cell) (rows fresh : List Row) → has_key key v (with_rows key rows fresh) ≡ false → has_key key v fresh ≡ false
fresh-lacks key v rows fresh lacks = let both = has_key_with_rows key v rows fresh in grind (arith, both, lacks)

pub fresh-apart : (t : Table) (rows fresh : List Row) (row : Row) → t.key < length t.columns → list_all (fits_columns t.columns) fresh ≡ true → fits_columns t.columns row ≡ true
    → has_key t.key (cell_at row t.key) (with_rows t.key rows fresh) ≡ false → is_apart t.key fresh row ≡ true
fresh-apart t rows fresh row below all fits lacks =
    apart-fits t.columns t.key fresh row below all fits (fresh-lacks t.key (cell_at row t.key) rows fresh lacks)

pub fresh-step : (t : Table) (i : ℕ) (rows fresh rest : List Row) (row : Row) → is_apart t.key fresh row ≡ true → fault_of_row t i (with_rows t.key rows fresh) row ≡ None
    → fault_from t i (with_rows t.key rows fresh) (row ∷ rest) ≡ fault_from t (i + 1) (with_rows t.key rows (with_row t.key fresh row)) rest
fresh-step t i rows fresh rest row apart none =
    ap (λ fault. first_fault fault (fault_from t (i + 1) (with_row t.key (with_rows t.key rows fresh) row) rest)) none
    ∙ ap (λ xs. fault_from t (i + 1) xs rest) (sym (with_rows-among t.key rows fresh row apart))

apart-ascending : (key : ℕ) (rows more : List Row) → ascend key more ≡ true → list_all (is_apart key rows) more ≡ true → are_apart key rows more ≡ true
apart-ascending key rows [] h each = refl
apart-ascending key rows (m ∷ more) h each =
    let ih = apart-ascending key (with_row key rows m) more (ascend-tail key m more h) (apart-next key rows more m (ascend-first key m more h) (grind arith)) in
    grind (arith, ih, each)

pub apart-fresh : (key : ℕ) (rows more : List Row) → are_apart key rows more ≡ true → are_apart key rows (with_rows key [] more) ≡ true
apart-fresh key rows more apart =
    apart-ascending key rows (with_rows key [] more) (apart-ascend key [] more refl (apart-alone key rows more apart))
    (list_all-rows (is_apart key rows) key [] more ∙ apart-each key rows more apart)
