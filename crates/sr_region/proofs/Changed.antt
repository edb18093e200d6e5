-- What the changes of a table tell of its rows.
use Rattle.std.proofs.Common.{◌≡◌, ℕ, suc, ◌+◌, ◌<◌, Bool, true, false, cond, not, ◌||◌, List, [], ◌∷◌, length, map, refl, sym, subst, ◌∙◌, arith}
use Rattle.std.specs.Prelude.{filter, Option, Some, None, if◌then◌else◌}
use Rattle.std.specs.List.{list_all, list_any, All, AllByRecursion}
use Rattle.std.proofs.lemmas.List.Elements.{All-nil, All-append, All-weaker, All-from_recursion}
use Rattle.sr_cell.specs.declared.cell.Cell.{Cell}
use Rattle.sr_cell.specs.declared.change.Change.{Change}
use Rattle.sr_cell.specs.declared.table.Table.{Table}
use Rattle.sr_cell.specs.Cells.{Row, cell_at, cell_eq}
use Rattle.sr_cell.specs.Columns.{is_point, table_at}
use Rattle.sr_cell.proofs.Lists.{find-none}
use Rattle.sr_cell.proofs.Order.{cell_eq-sound}
use Rattle.sr_model.specs.SortedRows.{has_key, with_row}
use Rattle.sr_model.specs.Queries.{rows_at}
use Rattle.sr_model.specs.Statements.{Tables}
use Rattle.sr_model.specs.Changes.{row_with, same_row, all_keys, table_changes, changes_from}
use Rattle.sr_rows.proofs.Elements.{list_any-with_row}
use Rattle.sr_region.specs.Applied.{IsNew, is_point_if_there, has_points}
use Rattle.sr_region.proofs.Found.{find-passes, find-among, same_row-sound}

-- ---- what a change is

-- a change of that table, with the row of its key before and after
pub record IsChange (table : Table) (t : ℕ) (old new : List Row) (c : Change) : Type 0 where
  pub number : c.table ≡ t
  pub before : c.before ≡ row_with table.key c.key old
  pub after : c.after ≡ row_with table.key c.key new

module _ (table : Table) (t : ℕ) (old new : List Row) where
  abbrev change_of : Row → Change
  change_of row = record { table = t; key = cell_at row table.key; before = row_with table.key (cell_at row table.key) old; after = row_with table.key (cell_at row table.key) new }

  abbrev is_one : Change → Bool
  is_one c = not (same_row c.before c.after)

  each-change : (keys : List Row) → AllByRecursion (IsChange table t old new) (filter is_one (map change_of keys))
  each-change [] = tt
  each-change (row ∷ keys) = go (is_one (change_of row)) (each-change keys)
    where
      go : (b : Bool) → AllByRecursion (IsChange table t old new) (filter is_one (map change_of keys))
          → AllByRecursion (IsChange table t old new) (cond b (change_of row ∷ filter is_one (map change_of keys)) (filter is_one (map change_of keys)))
      go true ih = (record { number = refl; before = refl; after = refl }, ih)
      go false ih = ih

  pub are-changes : AllByRecursion (IsChange table t old new) (table_changes table t old new)
  are-changes = each-change (all_keys table.key old new)

  point-if-there : (v : Cell) (rows : List Row) (row : Option Row) → row ≡ row_with table.key v rows → list_all (is_point table.columns) rows ≡ true → is_point_if_there table.columns row ≡ true
  point-if-there v rows None e points = refl
  point-if-there v rows (Some row) e points = find-among (λ r. cell_eq (cell_at r table.key) v) (is_point table.columns) rows row points (sym e)

  pub are-points : (c : Change) → IsChange table t old new c → list_all (is_point table.columns) old ≡ true → list_all (is_point table.columns) new ≡ true → has_points table.columns c ≡ true
  are-points c is was points =
      let before = point-if-there c.key old c.before is.before was in
      let after = point-if-there c.key new c.after is.after points in
      rw (before, after) refl

  -- the new row is a row of the table, and has the key
  pub is-new : (c : Change) → IsChange table t old new c → list_all (is_point table.columns) new ≡ true → IsNew table c.key c.after
  is-new c is points = go c.after is.after
    where
      go : (after : Option Row) → after ≡ row_with table.key c.key new → IsNew table c.key after
      go None e = tt
      go (Some row) e = (
        find-among (λ r. cell_eq (cell_at r table.key) c.key) (is_point table.columns) new row points (sym e),
        cell_eq-sound (cell_at row table.key) c.key (find-passes (λ r. cell_eq (cell_at r table.key) c.key) new row (sym e)),
      )

-- ---- a key without change has the same row

has-keys : (key : ℕ) (v : Cell) (rows others : List Row) → has_key key v (all_keys key rows others) ≡ (has_key key v rows || has_key key v others)
has-keys key v rows [] = go (has_key key v rows)
  where
    go : (b : Bool) → b ≡ (b || false)
    go b = grind arith
has-keys key v rows (x ∷ others) =
    go (has_key key (cell_at x key) rows) refl (has-keys key v rows others) (has-keys key v (with_row key rows x) others)
  where
    known : (b : Bool) → cell_eq (cell_at x key) v ≡ b → has_key key (cell_at x key) rows ≡ true → has_key key v (all_keys key rows others) ≡ (has_key key v rows || has_key key v others)
        → has_key key v (all_keys key rows others) ≡ (has_key key v rows || (b || has_key key v others))
    known true e has ih = let own : has_key key v rows ≡ true = subst (λ u. has_key key u rows ≡ true) (cell_eq-sound (cell_at x key) v e) has in rw own at ih ∙ sym (rw own refl)
    known false e has ih = ih

    go : (b : Bool) → has_key key (cell_at x key) rows ≡ b → has_key key v (all_keys key rows others) ≡ (has_key key v rows || has_key key v others)
        → has_key key v (all_keys key (with_row key rows x) others) ≡ (has_key key v (with_row key rows x) || has_key key v others)
        → has_key key v (all_keys key (if b then rows else with_row key rows x) others) ≡ (has_key key v rows || (cell_eq (cell_at x key) v || has_key key v others))
    go true has one two = known (cell_eq (cell_at x key) v) refl has one
    go false has one two = let any = list_any-with_row (λ row. cell_eq (cell_at row key) v) key rows x in grind (arith, two, any)

-- a change of that key
abbrev pub has_change : Cell → List Change → Bool
has_change v cs = list_any (λ (c : Change). cell_eq c.key v) cs

module _ (table : Table) (t : ℕ) (old new : List Row) where
  told : (v : Cell) (keys : List Row) → has_key table.key v keys ≡ true → same_row (row_with table.key v old) (row_with table.key v new) ≡ false
      → has_change v (filter (is_one table t old new) (map (change_of table t old new) keys)) ≡ true
  told v [] has differ = absurd (cc)
  told v (row ∷ keys) has differ = go (cell_eq (cell_at row table.key) v) refl has (λ h. told v keys h differ)
    where
      rest : List Change
      rest = filter (is_one table t old new) (map (change_of table t old new) keys)

      here : cell_at row table.key ≡ v → is_one table t old new (change_of table t old new row) ≡ true
      here own = rw own (rw differ refl)

      behind : (b : Bool) → has_change v rest ≡ true → has_change v (cond b (change_of table t old new row ∷ rest) rest) ≡ true
      behind true ih = grind (arith, ih)
      behind false ih = ih

      go : (b : Bool) → cell_eq (cell_at row table.key) v ≡ b → (b || has_key table.key v keys) ≡ true → (has_key table.key v keys ≡ true → has_change v rest ≡ true)
          → has_change v (cond (is_one table t old new (change_of table t old new row)) (change_of table t old new row ∷ rest) rest) ≡ true
      go true e h ih = let one = here (cell_eq-sound (cell_at row table.key) v e) in rw (one, e) refl
      go false e h ih = behind (is_one table t old new (change_of table t old new row)) (ih h)

  pub stays : (v : Cell) → has_change v (table_changes table t old new) ≡ false → row_with table.key v old ≡ row_with table.key v new
  stays v none = go (has_key table.key v (all_keys table.key old new)) refl (same_row (row_with table.key v old) (row_with table.key v new)) refl
    where
      go : (b : Bool) → has_key table.key v (all_keys table.key old new) ≡ b → (c : Bool) → same_row (row_with table.key v old) (row_with table.key v new) ≡ c
          → row_with table.key v old ≡ row_with table.key v new
      go b has true same = same_row-sound (row_with table.key v old) (row_with table.key v new) same
      go true has false differ = let one = told v (all_keys table.key old new) has differ in absurd (cc)
      go false has false differ =
          let both = has-keys table.key v old new in
          find-none (λ row. cell_eq (cell_at row table.key) v) old (grind (arith, both, has))
          ∙ sym (find-none (λ row. cell_eq (cell_at row table.key) v) new (grind (arith, both, has)))

-- ---- the changes of all tables

-- a change of one of the tables; n is the number of the first
abbrev pub IsChangeOf : ℕ → List Table → Tables → Tables → Change → Type 0
IsChangeOf n schema old new c = (k : ℕ) × (k < length schema) × IsChange (table_at schema k) (n + k) (rows_at old k) (rows_at new k) c

pub all-changes : (n : ℕ) (schema : List Table) (old new : Tables) → All (IsChangeOf n schema old new) (changes_from n schema old new)
all-changes n [] old new = All-nil (IsChangeOf n [] old new)
all-changes n (table ∷ schema) [] new = All-nil (IsChangeOf n (table ∷ schema) [] new)
all-changes n (table ∷ schema) (o ∷ old) [] = All-nil (IsChangeOf n (table ∷ schema) (o ∷ old) [])
all-changes n (table ∷ schema) (o ∷ old) (r ∷ new) =
    All-append P (table_changes table n o r) (changes_from (n + 1) schema old new)
    (All-weaker (IsChange table n o r) P here (table_changes table n o r) (All-from_recursion (IsChange table n o r) (table_changes table n o r) (are-changes table n o r)))
    (All-weaker (IsChangeOf (n + 1) schema old new) P there (changes_from (n + 1) schema old new) (all-changes (n + 1) schema old new))
  where
    P : Change → Type 0
    P = IsChangeOf n (table ∷ schema) (o ∷ old) (r ∷ new)

    here : (c : Change) → IsChange table n o r c → P c
    here c is = let number : n ≡ n + 0 = omega arith in (0, omega arith, subst (λ k. IsChange table k o r c) number is)

    there : (c : Change) → IsChangeOf (n + 1) schema old new c → P c
    there c is =
        let k = is.0 in
        let below = is.1 in
        let number : n + 1 + k ≡ n + suc k = omega arith in
        (suc k, omega (arith, below), subst (λ m. IsChange (table_at schema k) m (rows_at old k) (rows_at new k) c) number is.2)
