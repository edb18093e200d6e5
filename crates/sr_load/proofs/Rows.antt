-- The cells of a row, one more.
use Rattle.std.proofs.Common.{◌≡◌, ℕ, ◌+◌, ◌<◌, false, List, [], length, drop, get_or, refl}
use Rattle.std.specs.Prelude.{◌==◌}
use Rattle.std.proofs.lemmas.List.{drop_more}
use Rattle.sr_cell.specs.declared.cell.Cell.{Cell}
use Rattle.sr_query.specs.Writes.{value_for}

-- the value for another column than the next
pub other_column : (c i : ℕ) (columns : List ℕ) (cells : List Cell) → i < length columns → i < length cells → (get_or columns i 0 == c) ≡ false
    → value_for c (drop i columns) (drop i cells) ≡ value_for c (drop (i + 1) columns) (drop (i + 1) cells)
other_column c i columns cells a b other = rw (drop_more columns i 0 a, drop_more cells i (get_or cells i (value_for 0 [] [])) b, other) refl
