-- Rows in the order of a column.
use Rattle.std.specs.Prelude.{ℕ, Bool, true, List, [], ◌∷◌, ◌++◌, Option, Some, None, if◌then◌else◌}
use Rattle.std.specs.declared.cmp.Ordering.{Ordering}
use Rattle.std.specs.Map.{lookup}
use Rattle.std.specs.BTreeMap.{is_at}
use Rattle.std.specs.BTreeSet.{BTreeSet, contains}
use Rattle.std.specs.List.{list_all}
use Rattle.sr_cell.specs.declared.cell.Cell.{Cell}
use Rattle.sr_cell.specs.Cells.{Row, cell_at, cell_le}
use Rattle.sr_keyed.specs.declared.index.Index.{Index}
use Rattle.sr_keyed.specs.declared.index.Place.{Place}
use Rattle.sr_keyed.specs.declared.index.Spot.{Spot}
use Rattle.sr_keyed.specs.declared.index.Spot.TheVariants.{First, At, Last}

-- where a row stands by a column, and among the rows with its value by key
abbrev pub place_of : ℕ → ℕ → Row → Place
place_of key column row = record { column = column; value = At (cell_at row column); key = At (cell_at row key) }

-- where the rows begin whose value is not below an end, and where those end whose value is not above one
abbrev pub first_place : ℕ → Option Cell → Place
first_place column None = record { column = column; value = First; key = First }
first_place column (Some low) = record { column = column; value = At low; key = First }

abbrev pub last_place : ℕ → Option Cell → Place
last_place column None = record { column = column; value = Last; key = Last }
last_place column (Some high) = record { column = column; value = At high; key = Last }

-- the lower end is not above the upper one, as far as there are both
abbrev pub are_in_order : Option Cell → Option Cell → Bool
are_in_order None high = true
are_in_order (Some low) None = true
are_in_order (Some low) (Some high) = cell_le low high

-- the row has a place by each of the columns
abbrev pub has_places : (Place → Place → Ordering) → BTreeSet Place → ℕ → List ℕ → Row → Bool
has_places cmp places key columns row = list_all (λ c. contains cmp places (place_of key c row)) columns

abbrev pub is_indexed : (Place → Place → Ordering) → Index → ℕ → Row → Bool
is_indexed cmp index key row = has_places cmp index.places key index.columns.items row

-- the key at a spot is among the keys
abbrev pub has_spot : (Cell → Cell → Ordering) → BTreeSet Cell → Spot → Bool
has_spot cmp keys First = true
has_spot cmp keys (At key) = contains cmp keys key
has_spot cmp keys Last = true

abbrev pub if_passes : (Row → Bool) → Option Row → List Row
if_passes p None = []
if_passes p (Some row) = if p row then row ∷ [] else []

-- the rows with the keys, key by key, that pass
abbrev pub rows_at : (Cell → Cell → Ordering) → (Row → Bool) → List (Cell × Row) → List Cell → List Row
rows_at cmp p es [] = []
rows_at cmp p es (k ∷ ks) = if_passes p (lookup (is_at (cmp k)) es) ++ rows_at cmp p es ks
