-- What a statement's rows make of a table's rows.
use Rattle.std.proofs.Common.{◌≡◌, ℕ, zero, suc, ◌+◌, ◌<◌, ◌≤◌, Bool, true, false, ◌&&◌, ◌||◌, List, [], ◌∷◌, length, drop, refl, ap, ◌∙◌, arith}
use Rattle.std.specs.Prelude.{ℤ, if◌then◌else◌, nat_lt, Option, Some, None, Result, Ok, Err, ◌==◌}
use Rattle.std.specs.List.{list_all}
use Rattle.std.proofs.lemmas.Int.{ints}
use Rattle.std.proofs.lemmas.List.{drop_all, length-map}
use Rattle.std.proofs.lemmas.Bool.Decides.{nat_tests}
use Rattle.sr_cell.specs.declared.cell.Cell.{Cell}
use Rattle.sr_cell.specs.declared.cell.Cell.TheVariants.{Num, Str, Null}
use Rattle.sr_cell.specs.declared.table.Kind.{Kind}
use Rattle.sr_cell.specs.declared.table.Kind.TheVariants.{Num as Numbers, Str as Texts}
use Rattle.sr_cell.specs.declared.table.Column.{Column}
use Rattle.sr_cell.specs.declared.table.Table.{Table}
use Rattle.sr_cell.specs.declared.change.Change.{Change}
use Rattle.sr_cell.specs.declared.fault.Fault.{Fault}
use Rattle.sr_cell.specs.declared.fault.Why.TheVariants.{DuplicateKey, TableFull, TooManyChanges}
use Rattle.sr_cell.specs.Cells.{Row, cell_at, cell_le, cell_eq}
use Rattle.sr_cell.specs.Columns.{takes_kind, fits_columns}
use Rattle.sr_model.specs.SortedRows.{ascend, has_key, with_row, with_rows}
use Rattle.sr_model.specs.Loads.{room_fault, load_fault}
use Rattle.sr_model.specs.Statements.{cell_fault, first_fault, bad_cell_from, key_fault, fault_of_row, or_else, within_limits, inserted}
use Rattle.sr_rows.specs.Places.{is_apart}
use Rattle.sr_tables.specs.Added.{added_row, added_rows}
use Rattle.sr_tables.specs.Inserts.{fault_from, limit_fault, are_apart}
use Rattle.sr_rows.proofs.Order.{text_le-total}
use Rattle.sr_rows.proofs.Places.{with_row-ascend}
use Rattle.sr_rows.proofs.Elements.{list_any-with_rows, list_all-row, list_all-with_row}

-- tests, counts and orders of rows with more rows

-- what the rows of a statement have, and what the table had
pub has_key_with_rows : (key : ℕ) (v : Cell) (rows more : List Row) → has_key key v (with_rows key rows more) ≡ (has_key key v rows || has_key key v more)
has_key_with_rows key v rows more = list_any-with_rows (λ row. cell_eq (cell_at row key) v) key rows more

pub list_all-rows : (p : Row → Bool) (key : ℕ) (rows more : List Row) → list_all p (with_rows key rows more) ≡ (list_all p rows && list_all p more)
list_all-rows p key rows [] = and_true (list_all p rows)
  where
    and_true : (b : Bool) → b ≡ (b && true)
    and_true true = refl
    and_true false = refl
list_all-rows p key rows (row ∷ more) =
    let ih = list_all-rows p key (with_row key rows row) more in
    let one = list_all-row p key rows row in
    grind (arith, ih, one)

pub length-with_row : (key : ℕ) (rows : List Row) (row : Row) → length (with_row key rows row) ≡ suc (length rows)
length-with_row key [] row = refl
length-with_row key (r ∷ rows) row = go (cell_le (cell_at r key) (cell_at row key)) (length-with_row key rows row)
  where
    go : (b : Bool) → length (with_row key rows row) ≡ suc (length rows) → length (if b then r ∷ with_row key rows row else row ∷ r ∷ rows) ≡ suc (suc (length rows))
    go true ih = ap suc ih
    go false ih = refl

pub length-with_rows : (key : ℕ) (rows more : List Row) → length (with_rows key rows more) ≡ length rows + length more
length-with_rows key rows [] = omega arith
length-with_rows key rows (row ∷ more) = omega (arith, length-with_rows key (with_row key rows row) more, length-with_row key rows row)

pub apart-ascend : (key : ℕ) (rows more : List Row) → ascend key rows ≡ true → are_apart key rows more ≡ true → ascend key (with_rows key rows more) ≡ true
apart-ascend key rows [] h apart = h
apart-ascend key rows (row ∷ more) h apart = apart-ascend key (with_row key rows row) more (with_row-ascend key rows row h (grind arith)) (grind arith)

-- a fault, place by place

pub bad_cell-short : (c : ℕ) (columns : List Column) (row : Row) (i : ℕ) → length row ≤ i → bad_cell_from c columns (drop i row) ≡ None
bad_cell-short c columns row i short = rw (drop_all i row short) (empty columns)
  where
    empty : (columns : List Column) → bad_cell_from c columns [] ≡ None
    empty [] = refl
    empty (column ∷ columns) = refl

-- the outcome of a statement, by its first fault

or_else-first : (one other : Option Fault) (result : Result (List Row) Fault) → or_else (first_fault one other) result ≡ or_else one (or_else other result)
or_else-first (Some fault) other result = refl
or_else-first None other result = refl

inserted-from : (table : Table) (i : ℕ) (more rows : List Row)
    → inserted table i more rows ≡ or_else (fault_from table i rows more) (within_limits (i + length more) (with_rows table.key rows more))
inserted-from table i [] rows = let e : i + 0 ≡ i = omega arith in rw e refl
inserted-from table i (row ∷ more) rows =
    let e : i + suc (length more) ≡ (i + 1) + length more = omega arith in
    let ih = inserted-from table (i + 1) more (with_row table.key rows row) in
    rw (e, or_else-first (fault_of_row table i rows row) (fault_from table (i + 1) (with_row table.key rows row) more)) (ap (λ x. or_else (fault_of_row table i rows row) x) ih)

two_limits : (a b : Bool) (f g : Fault) (result : Result (List Row) Fault)
    → (if a then Err f else (if b then Err g else result)) ≡ or_else (if a then Some f else (if b then Some g else None)) result
two_limits true b f g result = refl
two_limits false true f g result = refl
two_limits false false f g result = refl

limits-from : (changes : ℕ) (rows : List Row) → within_limits changes rows ≡ or_else (limit_fault changes (length rows)) (Ok rows)
limits-from changes rows =
    two_limits (nat_lt 65536 (length rows)) (nat_lt 10000 changes) (record { why = TableFull; at = 65536 }) (record { why = TooManyChanges; at = changes }) (Ok rows)

pub inserted-by : (table : Table) (more rows : List Row)
    → inserted table 0 more rows ≡ or_else (fault_from table 0 rows more) (or_else (limit_fault (length more) (length rows + length more)) (Ok (with_rows table.key rows more)))
inserted-by table more rows =
    let e : 0 + length more ≡ length more = omega arith in
    let all = with_rows table.key rows more in
    inserted-from table 0 more rows ∙ ap (λ x. or_else (fault_from table 0 rows more) x)
    (ap (λ n. within_limits n all) e ∙ limits-from (length more) all ∙ ap (λ n. or_else (limit_fault (length more) n) (Ok all)) (length-with_rows table.key rows more))

-- rows that fit

pub fits-kind : (kind : Kind) (low high : ℤ) (nullable : Bool) (c : ℕ) (v : Cell) → cell_fault kind low high nullable c v ≡ None → takes_kind kind low high nullable v ≡ true
fits-kind Numbers low high nullable c (Num n) h = grind arith
fits-kind Numbers low high nullable c (Str s) h = absurd (cc)
fits-kind Numbers low high true c Null h = refl
fits-kind Numbers low high false c Null h = absurd (cc)
fits-kind Texts low high nullable c (Num n) h = absurd (cc)
fits-kind Texts low high nullable c (Str s) h = grind (arith, nat_tests)
fits-kind Texts low high true c Null h = refl
fits-kind Texts low high false c Null h = absurd (cc)

pub first_fault-none : (one other : Option Fault) → first_fault one other ≡ None → (one ≡ None) × (other ≡ None)
first_fault-none (Some fault) other h = absurd (cc)
first_fault-none None other h = (refl, h)

fits-cells : (c : ℕ) (columns : List Column) (row : Row) → bad_cell_from c columns row ≡ None → length row ≡ length columns → fits_columns columns row ≡ true
fits-cells c [] [] h wide = refl
fits-cells c [] (v ∷ row) h wide = absurd (omega arith)
fits-cells c (column ∷ columns) [] h wide = absurd (omega arith)
fits-cells c (column ∷ columns) (v ∷ row) h wide =
    let two = first_fault-none (cell_fault column.kind column.lo column.hi column.nullable c v) (bad_cell_from (c + 1) columns row) h in
    let one = fits-kind column.kind column.lo column.hi column.nullable c v two.0 in
    let ih = fits-cells (c + 1) columns row two.1 (omega arith) in
    grind (arith, one, ih)

-- cells of one kind are in order
in_order : (kind : Kind) (low high : ℤ) (nullable : Bool) (v w : Cell) → takes_kind kind low high nullable v ≡ true → takes_kind kind low high nullable w ≡ true → (cell_le v w || cell_le w v) ≡ true
in_order Numbers low high nullable (Num n) (Num m) h k = grind (arith, ints)
in_order Numbers low high nullable (Num n) (Str s) h k = absurd (cc)
in_order Numbers low high nullable (Str s) w h k = absurd (cc)
in_order Texts low high nullable (Num n) w h k = absurd (cc)
in_order Texts low high nullable (Str s) (Num m) h k = absurd (cc)
in_order Texts low high nullable (Str s) (Str t) h k = text_le-total s t
in_order Numbers low high nullable (Num n) Null h k = refl
in_order Texts low high nullable (Str s) Null h k = refl
in_order kind low high nullable Null (Num m) h k = refl
in_order kind low high nullable Null (Str t) h k = refl
in_order kind low high nullable Null Null h k = refl

pub keys_in_order : (columns : List Column) (key : ℕ) (r s : Row) → key < length columns → fits_columns columns r ≡ true → fits_columns columns s ≡ true
    → (cell_le (cell_at r key) (cell_at s key) || cell_le (cell_at s key) (cell_at r key)) ≡ true
keys_in_order [] key r s below h k = absurd (omega arith)
keys_in_order (c ∷ columns) key [] s below h k = absurd (cc)
keys_in_order (c ∷ columns) key (v ∷ r) [] below h k = absurd (cc)
keys_in_order (c ∷ columns) zero (v ∷ r) (w ∷ s) below h k = in_order c.kind c.lo c.hi c.nullable v w (grind arith) (grind arith)
keys_in_order (c ∷ columns) (suc key) (v ∷ r) (w ∷ s) below h k = keys_in_order columns key r s (omega arith) (grind arith) (grind arith)

pub apart-fits : (columns : List Column) (key : ℕ) (rows : List Row) (row : Row) → key < length columns → list_all (λ r. fits_columns columns r) rows ≡ true → fits_columns columns row ≡ true
    → has_key key (cell_at row key) rows ≡ false → is_apart key rows row ≡ true
apart-fits columns key [] row below all fits lacks = refl
apart-fits columns key (r ∷ rows) row below all fits lacks =
    let ih = apart-fits columns key rows row below (grind arith) fits (grind arith) in
    let order = keys_in_order columns key r row below (grind arith) fits in
    grind (arith, ih, order)

no_fault : (b : Bool) (fault : Fault) → (if b then Some fault else None) ≡ None → b ≡ false
no_fault true fault h = absurd (cc)
no_fault false fault h = refl

key_fault-none : (table : Table) (i : ℕ) (rows : List Row) (row : Row) → key_fault table i rows row ≡ None → has_key table.key (cell_at row table.key) rows ≡ false
key_fault-none table i rows row h = no_fault (has_key table.key (cell_at row table.key) rows) (record { why = DuplicateKey; at = i }) h

-- a row without a fault fits, and has a new key
pub row-faultless : (table : Table) (i : ℕ) (rows : List Row) (row : Row) → fault_of_row table i rows row ≡ None → length row ≡ length table.columns
    → (fits_columns table.columns row ≡ true) × (has_key table.key (cell_at row table.key) rows ≡ false)
row-faultless table i rows row none wide =
    let own = first_fault-none (bad_cell_from 0 table.columns row) (key_fault table i rows row) none in
    (fits-cells 0 table.columns row own.0 wide, key_fault-none table i rows row own.1)

pub load-faultless : (table : Table) (rows : List Row) (row : Row) → load_fault table rows row ≡ None → length row ≡ length table.columns
    → (fits_columns table.columns row ≡ true) × (has_key table.key (cell_at row table.key) rows ≡ false)
load-faultless table rows row none wide = row-faultless table 0 rows row (first_fault-none (fault_of_row table 0 rows row) (room_fault rows) none).0 wide

-- rows without a fault can be put one by one
pub apart-faultless : (table : Table) (i : ℕ) (rows more : List Row) → fault_from table i rows more ≡ None → table.key < length table.columns
    → list_all (λ r. fits_columns table.columns r) rows ≡ true → list_all (λ r. length r == length table.columns) more ≡ true
    → (are_apart table.key rows more ≡ true) × (list_all (λ r. fits_columns table.columns r) (with_rows table.key rows more) ≡ true)
apart-faultless table i rows [] none below fit wide = (refl, fit)
apart-faultless table i rows (row ∷ more) none below fit wide =
    let two = first_fault-none (fault_of_row table i rows row) (fault_from table (i + 1) (with_row table.key rows row) more) none in
    let own = first_fault-none (bad_cell_from 0 table.columns row) (key_fault table i rows row) two.0 in
    let fits = fits-cells 0 table.columns row own.0 (grind (arith, nat_tests)) in
    let apart = apart-fits table.columns table.key rows row below fit fits (key_fault-none table i rows row own.1) in
    let all = list_all-with_row (λ r. fits_columns table.columns r) table.key rows row fit fits in
    let ih = apart-faultless table (i + 1) (with_row table.key rows row) more two.1 below all (grind arith) in
    (grind (arith, apart, ih.0), ih.1)

-- the three outcomes

pub refused-by_row : (table : Table) (more rows : List Row) (fault : Fault) → fault_from table 0 rows more ≡ Some fault → inserted table 0 more rows ≡ Err fault
refused-by_row table more rows fault is =
    inserted-by table more rows ∙ ap (λ x. or_else x (or_else (limit_fault (length more) (length rows + length more)) (Ok (with_rows table.key rows more)))) is

pub refused-by_limit : (table : Table) (more rows : List Row) (fault : Fault) → fault_from table 0 rows more ≡ None
    → limit_fault (length more) (length rows + length more) ≡ Some fault → inserted table 0 more rows ≡ Err fault
refused-by_limit table more rows fault none is =
    inserted-by table more rows ∙ ap (λ x. or_else x (or_else (limit_fault (length more) (length rows + length more)) (Ok (with_rows table.key rows more)))) none
    ∙ ap (λ x. or_else x (Ok (with_rows table.key rows more))) is

pub inserted-done : (table : Table) (more rows : List Row) → fault_from table 0 rows more ≡ None → limit_fault (length more) (length rows + length more) ≡ None
    → inserted table 0 more rows ≡ Ok (with_rows table.key rows more)
inserted-done table more rows none few =
    inserted-by table more rows ∙ ap (λ x. or_else x (or_else (limit_fault (length more) (length rows + length more)) (Ok (with_rows table.key rows more)))) none
    ∙ ap (λ x. or_else x (Ok (with_rows table.key rows more))) few

-- ---- a change for each row

pub few-inserted : (number key count : ℕ) (more : List Row) (changes : List Change) → changes ≡ added_rows number key (with_rows key [] more) → limit_fault (length more) count ≡ None → length changes ≤ 10000
few-inserted number key count more changes are few =
    let size = ap length are ∙ (length-map (with_rows key [] more) (added_row number key) ∙ length-with_rows key [] more) in
    let least = by (nat_lt 65536 count) (nat_lt 10000 (length more)) refl few in
    omega (arith, size, least)
  where
    by : (a b : Bool) → nat_lt 10000 (length more) ≡ b → (let here : Option Fault = if a then Some (record { why = TableFull; at = 65536 }) else (if b then Some (record { why = TooManyChanges; at = length more }) else None) in here) ≡ None → length more ≤ 10000
    by true b is e = absurd cc
    by false true is e = absurd cc
    by false false is e = grind (arith, nat_tests, is)
