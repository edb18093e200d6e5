-- The steps of an UPDATE or DELETE of one table's rows.
use Rattle.std.specs.Prelude.{ℕ, Bool, ◌&&◌, nat_lt, List, [], ◌∷◌, length, Option, Some, None}
use Rattle.sr_cell.specs.declared.change.Change.{Change}
use Rattle.sr_cell.specs.Cells.{Row, cell_at}
use Rattle.sr_model.specs.Conditions.{Cond}
use Rattle.sr_model.specs.SortedRows.{has_key}
use Rattle.sr_model.specs.Statements.{Place, updated_row}
use Rattle.sr_rows.specs.Keys.{without_key}
use Rattle.sr_keyed.specs.Keyed.{Keyed, with_replaced}

-- what an UPDATE makes of a row, and what a DELETE does
abbrev pub update_change : ℕ → ℕ → List Place → Option Cond → Row → Change
update_change number key places c row = record { table = number; key = cell_at row key; before = Some row; after = Some (updated_row places c row) }

abbrev pub delete_change : ℕ → ℕ → Row → Change
delete_change number key row = record { table = number; key = cell_at row key; before = Some row; after = None }

-- the row is long enough, and some row has its key
abbrev pub is_known : Keyed → Row → Bool
is_known k row = nat_lt k.key (length row) && has_key k.key (cell_at row k.key) k.rows

-- rows in the place of those that have their keys, one after another
abbrev pub replaced_by : Keyed → List Row → Keyed
replaced_by k [] = k
replaced_by k (row ∷ news) = replaced_by (record k { rows = with_replaced k.key row k.rows }) news

-- without the rows whose keys are those of the changes
abbrev pub removed_by : Keyed → List Change → Keyed
removed_by k [] = k
removed_by k (c ∷ changes) = removed_by (record k { rows = without_key k.key c.key k.rows }) changes
