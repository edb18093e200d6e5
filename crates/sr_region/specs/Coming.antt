-- Rows that are still to come.
use Rattle.std.specs.Prelude.{ℕ, List}
use Rattle.sr_cell.specs.Cells.{Row}

-- rows, and the columns that they have
pub record Coming : Type 0 where
  pub attrs : ℕ
  pub rows : List Row
