-- The entries of the map that holds the rows.
use Rattle.std.specs.Prelude.{◌≡◌, ℕ, Bool, true, ◌&&◌, List, [], ◌∷◌, Option, Some, None, ⊤, if◌then◌else◌}
use Rattle.std.specs.declared.ops.Bound.{Bound}
use Rattle.std.specs.declared.ops.Bound.TheVariants.{Included, Unbounded}
use Rattle.sr_cell.specs.declared.cell.Cell.{Cell}
use Rattle.sr_cell.specs.declared.cell.Cell.TheVariants.{Null}
use Rattle.sr_cell.specs.declared.table.Kind.{Kind}
use Rattle.sr_cell.specs.Cells.{Row, cell_at, cell_le}
use Rattle.sr_keyed.specs.Keyed.{is_of}

-- each row stands at its own key, which is of the kind
abbrev pub AreKeyed : ℕ → Kind → List (Cell × Row) → Type 0
AreKeyed key kind [] = ⊤
AreKeyed key kind (e ∷ es) = (e.0 ≡ cell_at e.1 key) × (is_of kind e.0 ≡ true) × AreKeyed key kind es

-- a lower end for cells of a kind; above a cell of another kind stands Null alone
abbrev pub low_of : Kind → Option Cell → Option Cell
low_of kind None = None
low_of kind (Some low) = if is_of kind low then Some low else Some Null

-- the ends are of the kind, and the lower one is not above the upper one
abbrev pub are_ends : Kind → Option Cell → Option Cell → Bool
are_ends kind None None = true
are_ends kind None (Some high) = is_of kind high
are_ends kind (Some low) None = is_of kind low
are_ends kind (Some low) (Some high) = is_of kind low && cell_le low high

-- an end inside, or none
abbrev pub bound_of : Option Cell → Bound Cell
bound_of None = Unbounded
bound_of (Some v) = Included v
