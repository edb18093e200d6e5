-- Rows by their keys.
use Rattle.std.proofs.Common.{◌≡◌, ℕ, List, [], ◌∷◌, refl}
use Rattle.sr_cell.specs.declared.cell.Cell.{Cell}
use Rattle.sr_tables.specs.ByKey.{rows_with}

pub none-with : (key : ℕ) (keys : List Cell) → rows_with key keys [] ≡ []
none-with key [] = refl
none-with key (k ∷ keys) = none-with key keys
