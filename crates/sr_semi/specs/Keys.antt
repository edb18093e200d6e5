-- The keys that the left part asks for.
use Rattle.std.specs.Prelude.{ℕ, ◌<◌, ◌≡◌, true, ◌||◌, ◌/◌, max, Bool, nat_lt, List, [], ◌∷◌, length, map, filter, fold, Option, Some, None, if◌then◌else◌}
use Rattle.std.specs.List.{list_any, list_all}
use Rattle.sr_cell.specs.declared.cell.Cell.{Cell}
use Rattle.sr_cell.specs.declared.table.Table.{Table}
use Rattle.sr_cell.specs.Cells.{Row, cell_at, cell_eq, cell_le, is_null}
use Rattle.sr_grammar.specs.declared.statement.Literal.{Literal}
use Rattle.sr_grammar.specs.declared.statement.Atom.TheVariants.{OneOf}
use Rattle.sr_grammar.specs.Trees.{Cond, Test}
use Rattle.sr_model.specs.Conditions.{Eq, passes}
use Rattle.sr_query.specs.Binding.{column_at}
use Rattle.sr_semi.specs.Texts.{bare_reference}

-- a value more, in its place, unless it is there
abbrev pub with_value : List Cell → Cell → List Cell
with_value [] v = v ∷ []
with_value (w ∷ ws) v = if cell_eq v w then w ∷ ws else (if cell_le v w then v ∷ w ∷ ws else w ∷ with_value ws v)

-- a value more, unless it is Null
abbrev pub with_known : List Cell → Cell → List Cell
with_known vs v = if is_null v then vs else with_value vs v

-- these values and those in that place of the rows
abbrev pub values_behind : ℕ → List Cell → List Row → List Cell
values_behind place values rows = fold (λ vs row. with_known vs (cell_at row place)) values rows

-- the different values in that place of the rows, ascending, without Null
abbrev pub values_at : ℕ → List Row → List Cell
values_at place rows = values_behind place [] rows

abbrev pub literal_of : Cell → Literal
literal_of v = record { cell = v; place = 0 }

-- the key of the table is one of these
abbrev pub key_in : Table → List Cell → Cond
key_in t keys = Test (bare_reference (column_at t t.key).name) (OneOf (map literal_of keys))

-- how many keys may be asked beside a condition of that width: 64 divided by it, rounded down
abbrev pub most_keys : ℕ → ℕ
most_keys width = 64 / max width 1

-- the keys, unless there are more
abbrev pub at_most : ℕ → List Cell → Option (List Cell)
at_most most keys = if nat_lt most (length keys) then None else Some keys

abbrev pub is_key : List Cell → Cell → Bool
is_key keys v = list_any (cell_eq v) keys

-- the key of that number equals the value
pub record IsKeyAt (keys : List Cell) (v : Cell) (i : ℕ) : Type 0 where
  pub within : i < length keys
  pub equal : cell_eq v (cell_at keys i) ≡ true

-- one of the keys, or Null, which joins no row
abbrev pub is_met : List Cell → Cell → Bool
is_met keys v = is_null v || is_key keys v

-- each row has one of the keys in that place, or Null
abbrev pub all_have : ℕ → List Cell → List Row → Bool
all_have place keys rows = list_all (λ row. is_met keys (cell_at row place)) rows

-- the rows with that key in that place; of Null there are none
abbrev pub with_key : ℕ → List Row → Cell → List Row
with_key place rows key = filter (λ r. passes (Eq (cell_at r place)) key) rows

-- those of each key
abbrev pub by_key : ℕ → List Row → List Cell → List (List Row)
by_key place rows keys = map (with_key place rows) keys
