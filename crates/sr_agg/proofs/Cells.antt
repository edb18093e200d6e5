-- The cell of a column that a row lacks, or of a place that a key lacks.
use Rattle.std.proofs.Common.{◌≡◌, ℕ, zero, suc, [], ◌∷◌, refl}
use Rattle.std.specs.Prelude.{None, pos, slice_get}
use Rattle.sr_cell.specs.declared.cell.Cell.TheVariants.{Num}
use Rattle.sr_cell.specs.Cells.{Row, cell_at}
use Rattle.sr_agg.specs.Groups.{Key, told_at}

pub absent : (row : Row) (column : ℕ) → slice_get row column ≡ None → cell_at row column ≡ Num (pos 0)
absent [] zero h = refl
absent [] (suc column) h = refl
absent (v ∷ row) zero h = absurd cc
absent (v ∷ row) (suc column) h = absent row column h

pub untold : (key : Key) (place : ℕ) → slice_get key place ≡ None → told_at key place ≡ None
untold [] zero h = refl
untold [] (suc place) h = refl
untold (v ∷ key) zero h = absurd cc
untold (v ∷ key) (suc place) h = untold key place h
