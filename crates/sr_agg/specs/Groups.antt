-- What is told of the groups of an answer's rows.
use Rattle.std.specs.Prelude.{ℕ, zero, suc, ℤ, not, slice_index_or, ◌+ℤ◌, pos, negsuc, int_le, List, [], ◌∷◌, length, take, map, filter, fold, Option, Some, None, if◌then◌else◌}
use Rattle.std.specs.declared.cmp.Ordering.{Ordering}
use Rattle.std.specs.declared.cmp.Ordering.TheVariants.{Less, Equal, Greater}
use Rattle.std.specs.Ordering.{nat_cmp, int_cmp, is_eq, is_gt}
use Rattle.std.specs.Cmp.Lexicographic.{slice_cmp}
use Rattle.std.specs.Option.{option_cmp}
use Rattle.std.specs.BTreeSet.{insert_key}
use Rattle.sr_cell.specs.declared.cell.Cell.{Cell}
use Rattle.sr_cell.specs.declared.cell.Cell.TheVariants.{Num, Str, Null}
use Rattle.sr_cell.specs.Cells.{Row, cell_at, is_null}
use Rattle.sr_agg.specs.declared.item.Function.{Function}
use Rattle.sr_agg.specs.declared.item.Function.TheVariants.{Count, Sum, Min, Max}
use Rattle.sr_agg.specs.declared.item.Item.{Item}
use Rattle.sr_agg.specs.declared.item.Item.TheVariants.{Grouping, Rows, Of}

-- ---- the groups

-- Numbers stand before texts, and both before NULL; numbers are ordered by size and texts by their bytes.
abbrev pub cell_order : Cell → Cell → Ordering
cell_order (Num a) (Num b) = int_cmp a b
cell_order (Num a) (Str t) = Less
cell_order (Str s) (Num b) = Greater
cell_order (Str s) (Str t) = slice_cmp nat_cmp s t
cell_order (Num a) Null = Less
cell_order (Str s) Null = Less
cell_order Null (Num b) = Greater
cell_order Null (Str t) = Greater
cell_order Null Null = Equal

-- None stands for NULL
abbrev pub known : Cell → Option Cell
known v = if is_null v then None else Some v

-- the cells that a group's rows have in common
abbrev pub Key : Type 0
Key = List (Option Cell)

abbrev pub told_at : Key → ℕ → Option Cell
told_at key place = slice_index_or key place None

-- NULL stands first; the first cells that differ decide
abbrev pub key_order : Key → Key → Ordering
key_order = slice_cmp (option_cmp cell_order)

-- Without grouping columns there is one group, even of no rows.
abbrev pub first_keys : ℕ → List Key
first_keys zero = [] ∷ []
first_keys (suc g) = []

-- the first g cells of a row
abbrev pub group_of : ℕ → Row → Key
group_of g row = map known (take g row)

-- The groups: the different lists of the first g cells of the rows, in order.
abbrev pub group_keys : ℕ → List Row → List Key
group_keys g rows = fold (λ keys row. insert_key key_order keys (group_of g row)) (first_keys g) rows

-- the rows of a group
abbrev pub rows_with : ℕ → Key → List Row → List Row
rows_with g key rows = filter (λ row. is_eq (key_order key (group_of g row))) rows

-- ---- what is told of values

abbrev pub number_in : Cell → ℤ
number_in (Num n) = n
number_in (Str s) = pos 0
number_in Null = pos 0

abbrev pub total : List Cell → ℤ
total vs = fold (λ sum v. sum +ℤ number_in v) (pos 0) vs

-- the lesser of the least so far and one more
abbrev pub lesser : Option Cell → Cell → Option Cell
lesser None v = Some v
lesser (Some w) v = if is_gt (cell_order w v) then Some v else Some w

abbrev pub greater : Option Cell → Cell → Option Cell
greater None v = Some v
greater (Some w) v = if is_gt (cell_order v w) then Some v else Some w

-- the nearest number of 64 bits
abbrev pub nearest : ℤ → ℤ
nearest n =
    if int_le n (negsuc 9223372036854775807) then negsuc 9223372036854775807
    else (if int_le (pos 9223372036854775807) n then pos 9223372036854775807 else n)

abbrev pub if_any : List Cell → Cell → Option Cell
if_any [] told = None
if_any (v ∷ vs) told = Some told

-- None stands for NULL: of no values nothing is told but how many there are.
abbrev pub told_of_values : Function → List Cell → Option Cell
told_of_values Count vs = Some (Num (pos (length vs)))
told_of_values Sum vs = if_any vs (Num (nearest (total vs)))
told_of_values Min vs = fold lesser None vs
told_of_values Max vs = fold greater None vs

-- ---- what is told of groups

-- the values of a column that are not NULL
abbrev pub column_values : ℕ → List Row → List Cell
column_values column rows = filter (λ v. not (is_null v)) (map (λ row. cell_at row column) rows)

-- an item of the group with these grouping cells and these rows
abbrev pub told_of : Key → List Row → Item → Option Cell
told_of key rows (Grouping place) = told_at key place
told_of key rows Rows = Some (Num (pos (length rows)))
told_of key rows (Of function column) = told_of_values function (column_values column rows)

-- of rows, grouped by their first g cells: one row of items for each group
abbrev pub aggregates : ℕ → List Item → List Row → List (List (Option Cell))
aggregates g items rows = map (λ key. map (told_of key (rows_with g key rows)) items) (group_keys g rows)
