-- A column that a row does not have.
use Rattle.std.proofs.Common.{◌≡◌, ℕ, zero, suc, pos, [], ◌∷◌, refl}
use Rattle.std.specs.Prelude.{None, slice_get}
use Rattle.sr_cell.specs.declared.cell.Cell.TheVariants.{Num}
use Rattle.sr_cell.specs.Cells.{Row, cell_at}

pub absent_cell : (row : Row) (column : ℕ) → slice_get row column ≡ None → cell_at row column ≡ Num (pos 0)
absent_cell [] column e = refl
absent_cell (v ∷ row) zero e = absurd cc
absent_cell (v ∷ row) (suc column) e = absent_cell row column e
