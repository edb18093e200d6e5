-- What UPDATE and DELETE, step by step, make of a table's rows.
use Rattle.std.proofs.Common.{◌≡◌, ℕ, suc, Bool, true, false, cond, not, ◌&&◌, List, [], ◌∷◌, map, length, refl, sym, ap, subst, ◌∙◌, arith}
use Rattle.std.specs.Prelude.{◌<◌, ◌≤◌, nat_lt, filter, fold, Option, None, Result, Ok, if◌then◌else◌}
use Rattle.std.specs.List.{list_all, filter_map}
use Rattle.std.proofs.lemmas.List.{length-map}
use Rattle.std.proofs.lemmas.Bool.Decides.{nat_tests}
use Rattle.sr_cell.specs.declared.cell.Cell.{Cell}
use Rattle.sr_cell.specs.declared.change.Change.{Change}
use Rattle.sr_cell.specs.declared.table.Column.{Column}
use Rattle.sr_cell.specs.declared.table.Table.{Table}
use Rattle.sr_cell.specs.declared.fault.Fault.{Fault}
use Rattle.sr_cell.specs.Cells.{Row, cell_at, cell_eq}
use Rattle.sr_cell.specs.Columns.{fits_columns}
use Rattle.sr_cell.proofs.Order.{cell_eq-sound}
use Rattle.sr_model.specs.Conditions.{Cond}
use Rattle.sr_model.specs.SortedRows.{ascend, has_key}
use Rattle.sr_model.specs.Statements.{Place, meets, places_fault, updated_row, is_changed, updated, deleted, or_else, within_changes}
use Rattle.sr_model.specs.Changes.{table_changes}
use Rattle.sr_keyed.specs.Keyed.{Keyed, with_replaced, is_from, is_up_to, is_between}
use Rattle.sr_rows.specs.Keys.{without_key}
use Rattle.sr_tables.specs.Stored.{IsKeyed}
use Rattle.sr_tables.specs.Steps.{update_change, delete_change, is_known, replaced_by, removed_by}
use Rattle.sr_tables.proofs.Keys.{has-own}
use Rattle.sr_tables.proofs.Kept.{filter-wider}
use Rattle.sr_tables.proofs.Ends.{is_between-both}
use Rattle.sr_tables.proofs.Updating.{replaced-each, changes-map}
use Rattle.sr_tables.proofs.Deleting.{without-each, changes-filter}
use Rattle.sr_tables.proofs.Placing.{are_places, updated_row-key, updated_row-fits, updated-fits, unchanged-same}

-- rows of a table that pass a test are among those between ends that hold for each of them

filter-among : (ok p q : Row → Bool) → ((row : Row) → ok row ≡ true → p row ≡ true → q row ≡ true) → (rows : List Row) → list_all ok rows ≡ true → filter p (filter q rows) ≡ filter p rows
filter-among ok p q wider [] all = refl
filter-among ok p q wider (row ∷ rows) all = go (p row) refl (q row) refl (filter-among ok p q wider rows (grind arith))
  where
    go : (a : Bool) → p row ≡ a → (b : Bool) → q row ≡ b → filter p (filter q rows) ≡ filter p rows
        → filter p (cond b (row ∷ filter q rows) (filter q rows)) ≡ cond a (row ∷ filter p rows) (filter p rows)
    go true e true d ih = rw (e, ih) refl
    go true e false d ih = let w = wider row (grind arith) e in absurd (cc)
    go false e true d ih = rw (e, ih) refl
    go false e false d ih = ih

pub near-kept : (t : Table) (k : Keyed) → IsKeyed t k → (low high : Option Cell) (p : Row → Bool)
    → ((row : Row) → fits_columns t.columns row ≡ true → p row ≡ true → is_from low (cell_at row t.key) ≡ true)
    → ((row : Row) → fits_columns t.columns row ≡ true → p row ≡ true → is_up_to high (cell_at row t.key) ≡ true)
    → filter p (filter (is_between k.key low high) k.rows) ≡ filter p k.rows
near-kept t k keyed low high p lows highs =
    ap (λ key. filter p (filter (is_between key low high) k.rows)) keyed.key
    ∙ filter-among (fits_columns t.columns) p (is_between t.key low high) (λ row fits e. is_between-both t.key low high row (lows row fits e) (highs row fits e)) k.rows keyed.fits

pub near-passed : (key : ℕ) (rows : List Row) (low high : Option Cell) (p : Row → Bool)
    → ((row : Row) → p row ≡ true → is_from low (cell_at row key) ≡ true) → ((row : Row) → p row ≡ true → is_up_to high (cell_at row key) ≡ true)
    → filter p (filter (is_between key low high) rows) ≡ filter p rows
near-passed key rows low high p lows highs = filter-wider p (is_between key low high) (λ row e. is_between-both key low high row (lows row e) (highs row e)) rows

-- one row after another

has_key-replaced : (key : ℕ) (v : Cell) (row : Row) (rows : List Row) → has_key key v (with_replaced key row rows) ≡ has_key key v rows
has_key-replaced key v row [] = refl
has_key-replaced key v row (r ∷ rows) = go (cell_eq (cell_at r key) (cell_at row key)) refl (has_key-replaced key v row rows)
  where
    go : (b : Bool) → cell_eq (cell_at r key) (cell_at row key) ≡ b → has_key key v (with_replaced key row rows) ≡ has_key key v rows
        → has_key key v ((if b then row else r) ∷ with_replaced key row rows) ≡ has_key key v (r ∷ rows)
    go true e ih = let same : cell_at r key ≡ cell_at row key = cell_eq-sound (cell_at r key) (cell_at row key) e in rw (same, ih) refl
    go false e ih = rw ih refl

pub known-replaced : (k : Keyed) (row : Row) (news : List Row) → list_all (is_known k) news ≡ true
    → list_all (is_known (record k { rows = with_replaced k.key row k.rows })) news ≡ true
known-replaced k row [] h = refl
known-replaced k row (m ∷ news) h =
    let ih = known-replaced k row news (grind arith) in
    let same = has_key-replaced k.key (cell_at m k.key) row k.rows in
    grind (arith, ih, same, h)

replaced_by-rows : (k : Keyed) (news : List Row) → replaced_by k news ≡ record k { rows = fold (λ rows row. with_replaced k.key row rows) k.rows news }
replaced_by-rows k [] = refl
replaced_by-rows k (row ∷ news) = replaced_by-rows (record k { rows = with_replaced k.key row k.rows }) news

removed_by-rows : (k : Keyed) (changes : List Change) → removed_by k changes ≡ record k { rows = fold (λ rows (c : Change). without_key k.key c.key rows) k.rows changes }
removed_by-rows k [] = refl
removed_by-rows k (c ∷ changes) = removed_by-rows (record k { rows = without_key k.key c.key k.rows }) changes

fits-wide : (columns : List Column) (row : Row) (key : ℕ) → fits_columns columns row ≡ true → key < length columns → nat_lt key (length row) ≡ true
fits-wide columns row key h below = let same : length row ≡ length columns = long columns row h in grind (arith, nat_tests)
  where
    long : (columns : List Column) (row : Row) → fits_columns columns row ≡ true → length row ≡ length columns
    long [] [] h = refl
    long [] (v ∷ row) h = absurd (cc)
    long (c ∷ columns) [] h = absurd (cc)
    long (c ∷ columns) (v ∷ row) h = ap suc (long columns row (grind arith))

both : (a b d : Bool) → a ≡ true → b ≡ true → d ≡ true → ((a && b) && d) ≡ true
both a b d x y z = grind (arith, x, y, z)

or_else-none : (o : Option Fault) (result : Result (List Row) Fault) → o ≡ None → or_else o result ≡ result
or_else-none o result none = ap (λ x. or_else x result) none

few-rows : (n : ℕ) (rows : List Row) → n ≤ 10000 → within_changes n rows ≡ Ok rows
few-rows n rows few = let e : nat_lt 10000 n ≡ false = grind (arith, nat_tests) in rw e refl

-- ---- UPDATE

module _ (t : Table) (number : ℕ) (places : List Place) (c : Option Cond) (k : Keyed) (keyed : IsKeyed t k) (below : t.key < length t.columns) (placed : are_places t places ≡ true)
    (changes : List Change) (are : changes ≡ map (update_change number t.key places c) (filter (is_changed places c) k.rows)) (none : places_fault t places ≡ None) where
  count : length changes ≡ length (filter (is_changed places c) k.rows)
  count = ap length are ∙ length-map (filter (is_changed places c) k.rows) (update_change number t.key places c)

  pub updated-few : length changes ≤ 10000 → updated t places c k.rows ≡ Ok (map (updated_row places c) k.rows)
  updated-few few =
      or_else-none (places_fault t places) (within_changes (length (filter (is_changed places c) k.rows)) (map (updated_row places c) k.rows)) none
      ∙ ap (λ n. within_changes n (map (updated_row places c) k.rows)) (sym count) ∙ few-rows (length changes) (map (updated_row places c) k.rows) few

  afters : (rows : List Row) → filter_map (λ (ch : Change). ch.after) (map (update_change number t.key places c) rows) ≡ map (updated_row places c) rows
  afters [] = refl
  afters (row ∷ rows) = ap (λ xs. updated_row places c row ∷ xs) (afters rows)

  news-are : filter_map (λ (ch : Change). ch.after) changes ≡ map (updated_row places c) (filter (is_changed places c) k.rows)
  news-are = ap (λ (chs : List Change). filter_map (λ (ch : Change). ch.after) chs) are ∙ afters (filter (is_changed places c) k.rows)

  known-each : (rows : List Row) → list_all (fits_columns t.columns) rows ≡ true → list_all (λ row. has_key t.key (cell_at row t.key) k.rows) rows ≡ true
      → list_all (λ row. nat_lt t.key (length row) && has_key t.key (cell_at row t.key) k.rows) (map (updated_row places c) (filter (is_changed places c) rows)) ≡ true
  known-each [] fits has = refl
  known-each (row ∷ rows) fits has = go (is_changed places c row) (known-each rows (grind arith) (grind arith))
    where
      go : (b : Bool) → list_all (λ row. nat_lt t.key (length row) && has_key t.key (cell_at row t.key) k.rows) (map (updated_row places c) (filter (is_changed places c) rows)) ≡ true
          → list_all (λ row. nat_lt t.key (length row) && has_key t.key (cell_at row t.key) k.rows) (map (updated_row places c) (cond b (row ∷ filter (is_changed places c) rows) (filter (is_changed places c) rows))) ≡ true
      go true ih =
          let wide = fits-wide t.columns (updated_row places c row) t.key (updated_row-fits t places c row none (grind arith)) below in
          let known : has_key t.key (cell_at (updated_row places c row) t.key) k.rows ≡ true = ap (λ v. has_key t.key v k.rows) (updated_row-key t places c placed row) ∙ grind arith in
          both (nat_lt t.key (length (updated_row places c row))) (has_key t.key (cell_at (updated_row places c row) t.key) k.rows)
          (list_all (λ row. nat_lt t.key (length row) && has_key t.key (cell_at row t.key) k.rows) (map (updated_row places c) (filter (is_changed places c) rows))) wide known ih
      go false ih = ih

  -- each new row is long enough, and takes the place of another
  pub news-known : list_all (is_known k) (filter_map (λ (ch : Change). ch.after) changes) ≡ true
  news-known =
      ap (λ rows. list_all (is_known k) rows) news-are
      ∙ subst (λ key. list_all (λ row. nat_lt key (length row) && has_key key (cell_at row key) k.rows) (map (updated_row places c) (filter (is_changed places c) k.rows)) ≡ true) (sym keyed.key)
      (known-each k.rows keyed.fits (has-own t.key k.rows))

  module _ (ascends : ascend k.key k.rows ≡ true) (news : List Row) (after : news ≡ filter_map (λ (ch : Change). ch.after) changes) where
    sorted : ascend t.key k.rows ≡ true
    sorted = subst (λ key. ascend key k.rows ≡ true) keyed.key ascends

    pub replaced-rows : (replaced_by k news).rows ≡ map (updated_row places c) k.rows
    replaced-rows =
        ap (λ (n : Keyed). n.rows) (replaced_by-rows k news)
        ∙ ap (λ rows. fold (λ xs row. with_replaced k.key row xs) k.rows rows) (after ∙ news-are)
        ∙ subst (λ key. fold (λ xs row. with_replaced key row xs) k.rows (map (updated_row places c) (filter (is_changed places c) k.rows)) ≡ map (updated_row places c) k.rows) (sym keyed.key)
        (replaced-each t.key (updated_row places c) (updated_row-key t places c placed) (is_changed places c) (unchanged-same places c) k.rows sorted)

    pub updated-done : length changes ≤ 10000 → updated t places c k.rows ≡ Ok (replaced_by k news).rows
    updated-done few = updated-few few ∙ ap (λ rows. Ok rows) (sym replaced-rows)

    pub updated-changes : changes ≡ table_changes t number k.rows (replaced_by k news).rows
    updated-changes =
        are ∙ sym (changes-map t number (updated_row places c) (updated_row-key t places c placed) k.rows sorted)
        ∙ ap (λ rows. table_changes t number k.rows rows) (sym replaced-rows)

    pub updated-keyed : IsKeyed t (replaced_by k news)
    updated-keyed = record {
      key = ap (λ (n : Keyed). n.key) (replaced_by-rows k news) ∙ keyed.key;
      kind = ap (λ (n : Keyed). n.kind) (replaced_by-rows k news) ∙ keyed.kind;
      fits = ap (λ rows. list_all (fits_columns t.columns) rows) replaced-rows ∙ updated-fits t places c none k.rows keyed.fits;
    }

-- ---- DELETE

module _ (t : Table) (number : ℕ) (c : Option Cond) (k : Keyed) (keyed : IsKeyed t k) (changes : List Change) (are : changes ≡ map (delete_change number t.key) (filter (meets c) k.rows)) where
  gone : length changes ≡ length (filter (meets c) k.rows)
  gone = ap length are ∙ length-map (filter (meets c) k.rows) (delete_change number t.key)

  keys-fold : (rows start : List Row) → fold (λ xs (ch : Change). without_key t.key ch.key xs) start (map (delete_change number t.key) rows) ≡ fold (λ xs row. without_key t.key (cell_at row t.key) xs) start rows
  keys-fold [] start = refl
  keys-fold (row ∷ rows) start = keys-fold rows (without_key t.key (cell_at row t.key) start)

  module _ (ascends : ascend k.key k.rows ≡ true) where
    in-order : ascend t.key k.rows ≡ true
    in-order = subst (λ key. ascend key k.rows ≡ true) keyed.key ascends

    pub removed-rows : (removed_by k changes).rows ≡ filter (λ row. not (meets c row)) k.rows
    removed-rows =
        ap (λ (n : Keyed). n.rows) (removed_by-rows k changes)
        ∙ ap (λ (chs : List Change). fold (λ xs (ch : Change). without_key k.key ch.key xs) k.rows chs) are
        ∙ subst (λ key. fold (λ xs (ch : Change). without_key key ch.key xs) k.rows (map (delete_change number t.key) (filter (meets c) k.rows)) ≡ filter (λ row. not (meets c row)) k.rows) (sym keyed.key)
        (keys-fold (filter (meets c) k.rows) k.rows ∙ without-each (meets c) t.key k.rows in-order)

    pub deleted-done : length changes ≤ 10000 → deleted c k.rows ≡ Ok (removed_by k changes).rows
    deleted-done few =
        ap (λ n. within_changes n (filter (λ row. not (meets c row)) k.rows)) (sym gone) ∙ few-rows (length changes) (filter (λ row. not (meets c row)) k.rows) few
        ∙ ap (λ rows. Ok rows) (sym removed-rows)

    pub deleted-changes : changes ≡ table_changes t number k.rows (removed_by k changes).rows
    deleted-changes = are ∙ sym (changes-filter (meets c) t number k.rows in-order) ∙ ap (λ rows. table_changes t number k.rows rows) (sym removed-rows)

    pub deleted-keyed : IsKeyed t (removed_by k changes)
    deleted-keyed = record {
      key = ap (λ (n : Keyed). n.key) (removed_by-rows k changes) ∙ keyed.key;
      kind = ap (λ (n : Keyed). n.kind) (removed_by-rows k changes) ∙ keyed.kind;
      fits = ap (λ rows. list_all (fits_columns t.columns) rows) removed-rows ∙ left-fits k.rows keyed.fits;
    }
      where
        left-fits : (rows : List Row) → list_all (fits_columns t.columns) rows ≡ true → list_all (fits_columns t.columns) (filter (λ row. not (meets c row)) rows) ≡ true
        left-fits [] h = refl
        left-fits (row ∷ rows) h = go (meets c row) (left-fits rows (grind arith))
          where
            go : (b : Bool) → list_all (fits_columns t.columns) (filter (λ row. not (meets c row)) rows) ≡ true
                → list_all (fits_columns t.columns) (cond (not b) (row ∷ filter (λ row. not (meets c row)) rows) (filter (λ row. not (meets c row)) rows)) ≡ true
            go true ih = ih
            go false ih = grind (arith, ih)
