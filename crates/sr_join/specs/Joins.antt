-- How lent rows are put together and joined.
use Rattle.std.specs.Prelude.{ℕ, Bool, true, false, pos, ◌≡◌, List, [], ◌∷◌, ◌++◌, map, filter, flat_map, slice_get, slice_index_or, Option, Some, None, if◌then◌else◌}
use Rattle.sr_cell.specs.declared.cell.Cell.{Cell}
use Rattle.sr_cell.specs.declared.cell.Cell.TheVariants.{Num}
use Rattle.sr_cell.specs.Cells.{Row, cell_le}
use Rattle.sr_model.specs.Conditions.{Eq, passes}
use Rattle.sr_model.specs.Queries as model
use Rattle.sr_query.specs.declared.condition.Output.{Output}
use Rattle.sr_query.specs.declared.query.KeyJoin.{KeyJoin}
use Rattle.sr_query.specs.declared.query.Part.{Part}
use Rattle.sr_query.specs.declared.query.Query.{Query}
use Rattle.sr_join.specs.Shown.{Shown, cell_of, are_by}

-- ---- two lists by key

-- the second rows; without their first, if its key is not above that of the first of the first rows
abbrev pub past : ℕ → List Shown → List Shown → List Shown
past key [] more = more
past key (r ∷ rows) [] = []
past key (r ∷ rows) (m ∷ more) = if cell_le (cell_of key m) (cell_of key r) then more else m ∷ more

-- the rows of both by key; of two rows with one key, the first list's alone
abbrev pub united : ℕ → List Shown → List Shown → List Shown
united key [] more = more
united key (r ∷ rows) [] = r ∷ rows
united key (r ∷ rows) (m ∷ more) =
    if cell_le (cell_of key r) (cell_of key m) then r ∷ united key rows (past key (r ∷ rows) (m ∷ more)) else m ∷ united key (r ∷ rows) more

-- whether the next row is one of the first list
abbrev pub is_own_next : ℕ → List Shown → List Shown → Bool
is_own_next key [] more = false
is_own_next key (row ∷ rows) [] = true
is_own_next key (row ∷ rows) (other ∷ more) = cell_le (cell_of key row) (cell_of key other)

-- ---- the choices of one row for each part

abbrev pub key_in : Option Part → ℕ
key_in None = 0
key_in (Some part) = part.key

-- the join, with the key of the part that it joins
abbrev pub join_of : List Part → KeyJoin → model.Join
join_of parts j = record { left = j.left; column = j.column; right = j.right; key = key_in (slice_get parts j.right) }

-- a cell of the row of that part; 0, where none is chosen
abbrev pub cell_in : Option Shown → ℕ → Cell
cell_in None column = Num (pos 0)
cell_in (Some s) column = cell_of column s

abbrev pub chosen_cell : List Shown → ℕ → ℕ → Cell
chosen_cell chosen part column = cell_in (slice_get chosen part) column

abbrev pub found_at : List (List Shown) → ℕ → List Shown
found_at found part = slice_index_or found part []

-- the rows of the part whose key is that cell; of Null there are none
abbrev pub rows_with : List (List Shown) → ℕ → ℕ → Cell → List Shown
rows_with found part key v = filter (λ s. passes (Eq (cell_of key s)) v) (found_at found part)

-- the choices that begin with these rows and go on with one row for each join
abbrev pub choices : List (List Shown) → List model.Join → List Shown → List (List Shown)
choices found [] chosen = chosen ∷ []
choices found (j ∷ joins) chosen =
    flat_map (λ s. choices found joins (chosen ++ s ∷ [])) (rows_with found j.right j.key (chosen_cell chosen j.left j.column))

-- the cells of the outputs
abbrev pub outputs_of : List Output → List Shown → Row
outputs_of outputs chosen = map (λ o. chosen_cell chosen o.part o.column) outputs

-- what was found of each part stands by its key
abbrev pub AreBy : List Part → List (List Shown) → Type 0
AreBy parts found = (i : ℕ) → are_by (key_in (slice_get parts i)) (found_at found i) ≡ true

-- the outputs of all choices that begin with one of these rows
abbrev pub answers_of : Query → List (List Shown) → List Shown → List Row
answers_of query found firsts =
    flat_map (λ first. map (outputs_of query.output) (choices found (map (join_of query.parts) query.joins) (first ∷ []))) firsts
