-- One column more.
use Rattle.std.proofs.Common.{◌≡◌, true, List, [], ◌∷◌, ◌++◌, arith}
use Rattle.sr_cell.specs.declared.table.Column.{Column}
use Rattle.sr_cell.specs.Columns.{in_column}
use Rattle.sr_box.specs.Corners.{first_value, have_first}
use Rattle.sr_union.specs.Grid.{all_inner, is_inner}

pub inner_more : (cs : List Column) (c : Column) → all_inner cs ≡ true → is_inner c ≡ true → all_inner (cs ++ c ∷ []) ≡ true
inner_more [] c h k = grind (arith, k)
inner_more (d ∷ cs) c h k = let ih = inner_more cs c (grind arith) k in grind (arith, ih)

pub first_more : (cs : List Column) (c : Column) → have_first cs ≡ true → in_column c (first_value c.kind c.lo) ≡ true → have_first (cs ++ c ∷ []) ≡ true
first_more [] c h k = grind (arith, k)
first_more (d ∷ cs) c h k = let ih = first_more cs c (grind arith) k in grind (arith, ih)
