-- What a version changes.
use Rattle.std.specs.Prelude.{ℕ, Bool, true, false, not, ◌++◌, ◌+◌, ◌-◌, List, [], ◌∷◌, length, Option, Some, None, if◌then◌else◌, map, filter, fold, find, slice_index_or}
use Rattle.sr_cell.specs.declared.cell.Cell.{Cell}
use Rattle.sr_cell.specs.declared.table.Table.{Table}
use Rattle.sr_cell.specs.declared.change.Change.{Change}
use Rattle.sr_cell.specs.Cells.{Row, cell_at, cell_eq}
use Rattle.sr_model.specs.SortedRows.{has_key, with_row, row_eq}
use Rattle.sr_model.specs.Statements.{Tables}

abbrev pub row_with : ℕ → Cell → List Row → Option Row
row_with key v rows = find (λ row. cell_eq (cell_at row key) v) rows

abbrev pub same_row : Option Row → Option Row → Bool
same_row None None = true
same_row None (Some q) = false
same_row (Some p) None = false
same_row (Some p) (Some q) = row_eq p q

-- rows that have each key of both lists, by key ascending
abbrev pub all_keys : ℕ → List Row → List Row → List Row
all_keys key old new = fold (λ rows row. if has_key key (cell_at row key) rows then rows else with_row key rows row) old new

-- the keys of table number t whose row differs, ascending
abbrev pub table_changes : Table → ℕ → List Row → List Row → List Change
table_changes table t old new =
    filter (λ c. not (same_row c.before c.after))
    (map (λ row. record {
      table = t;
      key = cell_at row table.key;
      before = row_with table.key (cell_at row table.key) old;
      after = row_with table.key (cell_at row table.key) new;
    })
    (all_keys table.key old new))

-- by table and key ascending; t is the number of the first table
abbrev pub changes_from : ℕ → List Table → Tables → Tables → List Change
changes_from t [] old new = []
changes_from t (table ∷ schema) [] new = []
changes_from t (table ∷ schema) (o ∷ old) [] = []
changes_from t (table ∷ schema) (o ∷ old) (n ∷ new) = table_changes table t o n ++ changes_from (t + 1) schema old new

-- what differs between two versions of the tables
unfoldable pub changes : List Table → Tables → Tables → List Change
changes schema old new = changes_from 0 schema old new

-- Versions are numbered from 0; the first is that of the loaded tables.
abbrev pub newest_of : List Tables → ℕ
newest_of versions = length versions - 1

abbrev pub version_at : List Tables → ℕ → Tables
version_at versions v = slice_index_or versions v []

-- the changes that made version v
abbrev pub changes_at : List Table → List Tables → ℕ → List Change
changes_at schema versions v = changes schema (version_at versions (v - 1)) (version_at versions v)
