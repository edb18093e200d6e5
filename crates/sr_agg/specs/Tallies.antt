-- What is kept of the rows of a group: for each item a tally.
use Rattle.std.specs.Prelude.{ℕ, zero, suc, pos, ◌+◌, ◌<◌, ◌^◌, List, map, fold, Option, Some, None, if◌then◌else◌}
use Rattle.sr_cell.specs.declared.cell.Cell.{Cell}
use Rattle.sr_cell.specs.declared.cell.Cell.TheVariants.{Num}
use Rattle.sr_cell.specs.Cells.{Row, cell_at, is_null}
use Rattle.sr_agg.specs.declared.item.Function.TheVariants as functions
use Rattle.sr_agg.specs.declared.item.Item.{Item}
use Rattle.sr_agg.specs.declared.item.Item.TheVariants as items
use Rattle.sr_agg.specs.declared.tally.Tally.{Tally}
use Rattle.sr_agg.specs.declared.tally.Tally.TheVariants.{Grouping, Rows, Count, Sum, Min, Max}
use Rattle.sr_agg.specs.Totals.{Total, none_yet, with_number}
use Rattle.sr_agg.specs.Groups.{Key, greater, group_keys, lesser, nearest, number_in, rows_with, told_at}

-- of no rows
abbrev pub first_tally : Item → Tally
first_tally (items.Grouping place) = Grouping place
first_tally items.Rows = Rows 0
first_tally (items.Of functions.Count column) = Count column 0
first_tally (items.Of functions.Sum column) = Sum column none_yet
first_tally (items.Of functions.Min column) = Min column None
first_tally (items.Of functions.Max column) = Max column None

-- the column that it is of
abbrev pub column_in : Tally → ℕ
column_in (Grouping place) = 0
column_in (Rows count) = 0
column_in (Count column count) = column
column_in (Sum column total) = column
column_in (Min column least) = column
column_in (Max column greatest) = column

-- NULL counts as a row, and as no value
abbrev pub with_null : Tally → Tally
with_null (Grouping place) = Grouping place
with_null (Rows count) = Rows (count + 1)
with_null (Count column count) = Count column count
with_null (Sum column total) = Sum column total
with_null (Min column least) = Min column least
with_null (Max column greatest) = Max column greatest

abbrev pub with_value : Tally → Cell → Tally
with_value (Grouping place) cell = Grouping place
with_value (Rows count) cell = Rows (count + 1)
with_value (Count column count) cell = Count column (count + 1)
with_value (Sum column total) cell = Sum column (with_number total (number_in cell))
with_value (Min column least) cell = Min column (lesser least cell)
with_value (Max column greatest) cell = Max column (greater greatest cell)

abbrev pub with_cell : Tally → Cell → Tally
with_cell tally cell = if is_null cell then with_null tally else with_value tally cell

-- of one row more
abbrev pub with_row : Tally → Row → Tally
with_row tally row = with_cell tally (cell_at row (column_in tally))

abbrev pub tally_of : List Row → Item → Tally
tally_of rows item = fold with_row (first_tally item) rows

-- how many rows it counts, or values
abbrev pub count_in : Tally → ℕ
count_in (Rows count) = count
count_in (Count column count) = count
count_in (Sum column total) = total.count
count_in (Grouping place) = 0
count_in (Min column least) = 0
count_in (Max column greatest) = 0

abbrev pub IsFew : Tally → Type 0
IsFew tally = count_in tally < 2 ^ 63

-- the groups of rows, each by its cells and its tallies
abbrev pub grouped : ℕ → List Item → List Row → List (Key × List Tally)
grouped g items rows = map (λ key. (key, map (tally_of (rows_with g key rows)) items)) (group_keys g rows)

abbrev pub told_of_total : Total → Option Cell
told_of_total total = of_count total.count
  where
    of_count : ℕ → Option Cell
    of_count zero = None
    of_count (suc n) = Some (Num (nearest total.sum))

-- what a tally tells of the group with these grouping cells
abbrev pub told_by : Key → Tally → Option Cell
told_by key (Grouping place) = told_at key place
told_by key (Rows count) = Some (Num (nearest (pos count)))
told_by key (Count column count) = Some (Num (nearest (pos count)))
told_by key (Sum column total) = told_of_total total
told_by key (Min column least) = least
told_by key (Max column greatest) = greatest
