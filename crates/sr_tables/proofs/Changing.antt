-- What rows among others change.
use Rattle.std.proofs.Common.{◌≡◌, ℕ, Bool, true, false, cond, not, ◌||◌, List, [], ◌∷◌, refl, sym, ap, ◌∙◌, arith}
use Rattle.std.specs.Prelude.{if◌then◌else◌, filter, find, map, fold, Some}
use Rattle.std.specs.List.{list_all, list_any, AllByRecursion as Each}
use Rattle.sr_cell.specs.declared.change.Change.{Change}
use Rattle.sr_cell.specs.declared.table.Table.{Table}
use Rattle.sr_cell.specs.Cells.{Row, cell_at, cell_le, cell_eq}
use Rattle.sr_cell.proofs.Lists.{filter-map, find-none}
use Rattle.sr_cell.proofs.Order.{cell_le-trans, cell_le-refl}
use Rattle.sr_model.specs.SortedRows.{key_lt, ascend, has_key, with_row, with_rows}
use Rattle.sr_model.specs.Changes.{row_with, same_row, all_keys, table_changes}
use Rattle.sr_rows.specs.Places.{is_apart}
use Rattle.sr_rows.proofs.Order.{key_lt-le, key_lt-not, is_first, ascend-tail, ascend-first}
use Rattle.sr_rows.proofs.Places.{with_row-ascend}
use Rattle.sr_rows.proofs.Elements.{list_any-with_row, row_eq-refl}
use Rattle.sr_tables.specs.Inserts.{are_apart}
use Rattle.sr_tables.specs.Added.{added_rows}
use Rattle.sr_tables.proofs.Inserts.{list_all-rows, apart-ascend}
use Rattle.sr_tables.proofs.Inserting.{apart-each, with_rows-fresh}

-- ---- look-ups

find-some : {X : Type 0} (p : X → Bool) (xs : List X) (x : X) → find p xs ≡ Some x → list_any p xs ≡ true
find-some p [] x h = absurd (cc)
find-some p (y ∷ xs) x h = go (p y) h (find-some p xs x)
  where
    go : (b : Bool) → cond b (Some y) (find p xs) ≡ Some x → (find p xs ≡ Some x → list_any p xs ≡ true) → (b || list_any p xs) ≡ true
    go true h ih = refl
    go false h ih = ih h

-- the rows' keys differ
before-differs : (key : ℕ) (r s : Row) → key_lt key r s ≡ true → cell_eq (cell_at r key) (cell_at s key) ≡ false
before-differs key r s h = let n = key_lt-not key r s h in grind (arith, n)

pub apart-differs : (key : ℕ) (r s : Row) → (key_lt key r s || key_lt key s r) ≡ true → cell_eq (cell_at r key) (cell_at s key) ≡ false
apart-differs key r s h = grind arith

pub apart-lacks : (key : ℕ) (rows : List Row) (row : Row) → is_apart key rows row ≡ true → has_key key (cell_at row key) rows ≡ false
apart-lacks key [] row h = refl
apart-lacks key (r ∷ rows) row h =
    let ih = apart-lacks key rows row (grind arith) in
    let one = apart-differs key r row (grind arith) in
    grind (arith, ih, one)

-- each of ascending rows is found by its key
found-behind : (key : ℕ) (r : Row) (rows others : List Row) → is_first key r others ≡ true
    → Each (λ s. row_with key (cell_at s key) rows ≡ Some s) others → Each (λ s. row_with key (cell_at s key) (r ∷ rows) ≡ Some s) others
found-behind key r rows [] f all = tt
found-behind key r rows (s ∷ others) f all =
    let n = before-differs key r s (grind arith) in
    ((rw n all.0), found-behind key r rows others (grind arith) all.1)

found-each : (key : ℕ) (rows : List Row) → ascend key rows ≡ true → Each (λ s. row_with key (cell_at s key) rows ≡ Some s) rows
found-each key [] h = tt
found-each key (r ∷ rows) h =
    let same = cell_le-refl (cell_at r key) in
    ((rw same refl), found-behind key r rows rows (ascend-first key r rows h) (found-each key rows (ascend-tail key r rows h)))

-- ---- what holds of each row of both lists

each-row : (P : Row → Type 0) (key : ℕ) (rows : List Row) (row : Row) → Each P (with_row key rows row) → Each P rows × P row
each-row P key [] row all = (tt, all.0)
each-row P key (r ∷ rows) row all = go (cell_le (cell_at r key) (cell_at row key)) (each-row P key rows row) all
  where
    go : (b : Bool) → (Each P (with_row key rows row) → Each P rows × P row) → Each P (if b then r ∷ with_row key rows row else row ∷ r ∷ rows) → Each P (r ∷ rows) × P row
    go true ih all = let two = ih all.1 in ((all.0, two.0), two.1)
    go false ih all = (all.1, all.0)

each-rows : (P : Row → Type 0) (key : ℕ) (rows more : List Row) → Each P (with_rows key rows more) → Each P rows × Each P more
each-rows P key rows [] all = (all, tt)
each-rows P key rows (m ∷ more) all =
    let two = each-rows P key (with_row key rows m) more all in
    let one = each-row P key rows m two.0 in
    (one.0, (one.1, two.1))

row-each : (P : Row → Type 0) (key : ℕ) (rows : List Row) (row : Row) → Each P rows → P row → Each P (with_row key rows row)
row-each P key [] row all one = (one, tt)
row-each P key (r ∷ rows) row all one = go (cell_le (cell_at r key) (cell_at row key)) (row-each P key rows row all.1 one)
  where
    go : (b : Bool) → Each P (with_row key rows row) → Each P (if b then r ∷ with_row key rows row else row ∷ r ∷ rows)
    go true ih = (all.0, ih)
    go false ih = (one, all)

rows-each : (P : Row → Type 0) (key : ℕ) (rows more : List Row) → Each P rows → Each P more → Each P (with_rows key rows more)
rows-each P key rows [] all others = all
rows-each P key rows (m ∷ more) all others = rows-each P key (with_row key rows m) more (row-each P key rows m all others.0) others.1

-- ---- parts of rows with more rows

filter-none : (p : Row → Bool) (rows : List Row) → list_all (λ row. not (p row)) rows ≡ true → filter p rows ≡ []
filter-none p [] h = refl
filter-none p (r ∷ rows) h = let e : p r ≡ false = grind arith in rw e (filter-none p rows (grind arith))

-- the row stands before each of these
not_at_most : (key : ℕ) (row r : Row) (rows : List Row) → is_first key r rows ≡ true → cell_le (cell_at r key) (cell_at row key) ≡ false
    → list_all (λ s. not (cell_le (cell_at s key) (cell_at row key))) rows ≡ true
not_at_most key row r [] f n = refl
not_at_most key row r (s ∷ rows) f n =
    let ih = not_at_most key row r rows (grind arith) n in
    let t = cell_le-trans (cell_at r key) (cell_at s key) (cell_at row key) (key_lt-le key r s (grind arith)) in
    grind (arith, ih, t, n)

front-part : (p : Row → Bool) (key : ℕ) (row : Row) (rows : List Row) → list_all (λ s. not (cell_le (cell_at s key) (cell_at row key))) rows ≡ true
    → with_row key (filter p rows) row ≡ row ∷ filter p rows
front-part p key row [] h = refl
front-part p key row (r ∷ rows) h = go (p r) (front-part p key row rows (grind arith))
  where
    e : cell_le (cell_at r key) (cell_at row key) ≡ false
    e = grind arith

    go : (b : Bool) → with_row key (filter p rows) row ≡ row ∷ filter p rows → with_row key (cond b (r ∷ filter p rows) (filter p rows)) row ≡ row ∷ cond b (r ∷ filter p rows) (filter p rows)
    go true ih = rw e refl
    go false ih = ih

-- a row that passes
filter-row : (p : Row → Bool) (key : ℕ) (rows : List Row) (row : Row) → ascend key rows ≡ true → p row ≡ true → filter p (with_row key rows row) ≡ with_row key (filter p rows) row
filter-row p key [] row h passes = rw passes refl
filter-row p key (r ∷ rows) row h passes =
    go (cell_le (cell_at r key) (cell_at row key)) refl (p r) refl (filter-row p key rows row (ascend-tail key r rows h) passes)
  where
    go : (b : Bool) → cell_le (cell_at r key) (cell_at row key) ≡ b → (c : Bool) → p r ≡ c → filter p (with_row key rows row) ≡ with_row key (filter p rows) row
        → filter p (if b then r ∷ with_row key rows row else row ∷ r ∷ rows) ≡ with_row key (cond c (r ∷ filter p rows) (filter p rows)) row
    go true e true f ih = rw (f, e) (ap (λ xs. r ∷ xs) ih)
    go true e false f ih = rw f ih
    go false e true f ih = rw (passes, f, e) refl
    go false e false f ih = rw (passes, f) (sym (front-part p key row rows (not_at_most key row r rows (ascend-first key r rows h) e)))

-- a row that does not
pub filter-out : (p : Row → Bool) (key : ℕ) (rows : List Row) (row : Row) → p row ≡ false → filter p (with_row key rows row) ≡ filter p rows
filter-out p key [] row fails = rw fails refl
filter-out p key (r ∷ rows) row fails = go (cell_le (cell_at r key) (cell_at row key)) (filter-out p key rows row fails)
  where
    go : (b : Bool) → filter p (with_row key rows row) ≡ filter p rows → filter p (if b then r ∷ with_row key rows row else row ∷ r ∷ rows) ≡ cond (p r) (r ∷ filter p rows) (filter p rows)
    go true ih = ap (λ xs. cond (p r) (r ∷ xs) xs) ih
    go false ih = rw fails refl

filter-rows : (p : Row → Bool) (key : ℕ) (rows more : List Row) → ascend key rows ≡ true → are_apart key rows more ≡ true → list_all p more ≡ true
    → filter p (with_rows key rows more) ≡ with_rows key (filter p rows) more
filter-rows p key rows [] h apart passes = refl
filter-rows p key rows (m ∷ more) h apart passes =
    filter-rows p key (with_row key rows m) more (with_row-ascend key rows m h (grind arith)) (grind arith) (grind arith)
    ∙ ap (λ xs. with_rows key xs more) (filter-row p key rows m h (grind arith))

-- the new rows are those that pass
new_part : (p : Row → Bool) (key : ℕ) (rows more : List Row) → ascend key rows ≡ true → are_apart key rows more ≡ true
    → list_all (λ row. not (p row)) rows ≡ true → list_all p more ≡ true → filter p (with_rows key rows more) ≡ with_rows key [] more
new_part p key rows more h apart fail passes = filter-rows p key rows more h apart passes ∙ ap (λ xs. with_rows key xs more) (filter-none p rows fail)

-- ---- the keys of both

-- as a fold over rows puts them
abbrev put_new : ℕ → List Row → Row → List Row
put_new key rows row = if has_key key (cell_at row key) rows then rows else with_row key rows row

abbrev is_new : ℕ → List Row → Row → Bool
is_new key rows row = not (has_key key (cell_at row key) rows)

same_new : (key : ℕ) (rows : List Row) (x : Row) (others : List Row) → is_first key x others ≡ true → filter (is_new key (with_row key rows x)) others ≡ filter (is_new key rows) others
same_new key rows x [] f = refl
same_new key rows x (s ∷ others) f =
    let ih = same_new key rows x others (grind arith) in
    let n = before-differs key x s (grind arith) in
    let one = list_any-with_row (λ row. cell_eq (cell_at row key) (cell_at s key)) key rows x in
    let e : is_new key (with_row key rows x) s ≡ is_new key rows s = grind (arith, n, one) in
    rw (e, ih) refl

keys_of : (key : ℕ) (rows others : List Row) → ascend key others ≡ true → fold (put_new key) rows others ≡ with_rows key rows (filter (is_new key rows) others)
keys_of key rows [] h = refl
keys_of key rows (x ∷ others) h =
    go (has_key key (cell_at x key) rows) (keys_of key rows others (ascend-tail key x others h)) (keys_of key (with_row key rows x) others (ascend-tail key x others h))
  where
    go : (b : Bool) → fold (put_new key) rows others ≡ with_rows key rows (filter (is_new key rows) others)
        → fold (put_new key) (with_row key rows x) others ≡ with_rows key (with_row key rows x) (filter (is_new key (with_row key rows x)) others)
        → fold (put_new key) (if b then rows else with_row key rows x) others ≡ with_rows key rows (cond (not b) (x ∷ filter (is_new key rows) others) (filter (is_new key rows) others))
    go true one two = one
    go false one two = two ∙ ap (λ xs. with_rows key (with_row key rows x) xs) (same_new key rows x others (ascend-first key x others h))

old_known : (key : ℕ) (rows others : List Row) → Each (λ s. row_with key (cell_at s key) rows ≡ Some s) others → list_all (λ row. not (is_new key rows row)) others ≡ true
old_known key rows [] all = refl
old_known key rows (s ∷ others) all =
    let ih = old_known key rows others all.1 in
    let one = find-some (λ row. cell_eq (cell_at row key) (cell_at s key)) rows s all.0 in
    grind (arith, ih, one)

fresh_new : (key : ℕ) (rows more : List Row) → list_all (is_apart key rows) more ≡ true → list_all (is_new key rows) more ≡ true
fresh_new key rows [] h = refl
fresh_new key rows (m ∷ more) h =
    let ih = fresh_new key rows more (grind arith) in
    let one = apart-lacks key rows m (grind arith) in
    grind (arith, ih, one)

all_keys-with_rows : (key : ℕ) (rows more : List Row) → ascend key rows ≡ true → are_apart key rows more ≡ true
    → all_keys key rows (with_rows key rows more) ≡ with_rows key rows more
all_keys-with_rows key rows more h apart =
    keys_of key rows (with_rows key rows more) (apart-ascend key rows more h apart)
    ∙ ap (λ xs. with_rows key rows xs)
    (new_part (is_new key rows) key rows more h apart (old_known key rows rows (found-each key rows h)) (fresh_new key rows more (apart-each key rows more apart)))
    ∙ with_rows-fresh key rows more apart

-- ---- the changes

-- of each key: what stood there, and what stands there now
abbrev change_of : Table → ℕ → List Row → List Row → Row → Change
change_of table t old new row =
    record { table = t; key = cell_at row table.key; before = row_with table.key (cell_at row table.key) old; after = row_with table.key (cell_at row table.key) new }

abbrev differs : Table → List Row → List Row → Row → Bool
differs table old new row = not (same_row (row_with table.key (cell_at row table.key) old) (row_with table.key (cell_at row table.key) new))

stays : (table : Table) (old new others : List Row) → Each (λ s. row_with table.key (cell_at s table.key) old ≡ Some s) others
    → Each (λ s. row_with table.key (cell_at s table.key) new ≡ Some s) others → list_all (λ row. not (differs table old new row)) others ≡ true
stays table old new [] was is = refl
stays table old new (s ∷ others) was is =
    let ih = stays table old new others was.1 is.1 in
    let same = row_eq-refl s in
    let e : same_row (row_with table.key (cell_at s table.key) old) (row_with table.key (cell_at s table.key) new) ≡ true = rw (was.0, is.0) same in
    grind (arith, ih, e)

comes : (table : Table) (old new more : List Row) → list_all (is_apart table.key old) more ≡ true
    → Each (λ s. row_with table.key (cell_at s table.key) new ≡ Some s) more → list_all (differs table old new) more ≡ true
comes table old new [] apart is = refl
comes table old new (s ∷ more) apart is =
    let ih = comes table old new more (grind arith) is.1 in
    let none = find-none (λ row. cell_eq (cell_at row table.key) (cell_at s table.key)) old (apart-lacks table.key old s (grind arith)) in
    let e : same_row (row_with table.key (cell_at s table.key) old) (row_with table.key (cell_at s table.key) new) ≡ false = rw (none, is.0) refl in
    grind (arith, ih, e)

come_as : (table : Table) (t : ℕ) (old new more : List Row) → list_all (is_apart table.key old) more ≡ true
    → Each (λ s. row_with table.key (cell_at s table.key) new ≡ Some s) more → map (change_of table t old new) more ≡ added_rows t table.key more
come_as table t old new [] apart is = refl
come_as table t old new (s ∷ more) apart is =
    let ih = come_as table t old new more (grind arith) is.1 in
    let none = find-none (λ row. cell_eq (cell_at row table.key) (cell_at s table.key)) old (apart-lacks table.key old s (grind arith)) in
    rw (none, is.0, ih) refl

-- the changes of an INSERT are its rows, by key
pub changes-with_rows : (table : Table) (t : ℕ) (rows more : List Row) → ascend table.key rows ≡ true → are_apart table.key rows more ≡ true
    → table_changes table t rows (with_rows table.key rows more) ≡ added_rows t table.key (with_rows table.key [] more)
changes-with_rows table t rows more h apart =
    let key = table.key in
    let new = with_rows key rows more in
    let fresh = with_rows key [] more in
    let each = found-each key new (apart-ascend key rows more h apart) in
    let two = each-rows (λ s. row_with key (cell_at s key) new ≡ Some s) key rows more each in
    let apart_all = apart-each key rows more apart in
    let apart_fresh : list_all (is_apart key rows) fresh ≡ true = list_all-rows (is_apart key rows) key [] more ∙ apart_all in
    let found_fresh = rows-each (λ s. row_with key (cell_at s key) new ≡ Some s) key [] more tt two.1 in
    ap (λ xs. filter (λ (c : Change). not (same_row c.before c.after)) (map (change_of table t rows new) xs)) (all_keys-with_rows key rows more h apart)
    ∙ filter-map (λ (c : Change). not (same_row c.before c.after)) (change_of table t rows new) new
    ∙ ap (λ xs. map (change_of table t rows new) xs)
    (new_part (differs table rows new) key rows more h apart (stays table rows new rows (found-each key rows h) two.0) (comes table rows new more apart_all two.1))
    ∙ come_as table t rows new fresh apart_fresh found_fresh
