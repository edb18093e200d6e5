use Rattle.std.proofs.Common.{◌≡◌, ◌∷◌, ◌++◌, length, take, true}
use Rattle.std.specs.List.{flat_map, list_all}
use Rattle.sr_bytes.specs.Spelling.{cell_bytes, has_cell_bytes}
use Rattle.sr_bytes.proofs.write.push_row.Given as goal

abbrev pub invariant-loop-cell : goal.invariant-loop-cell
invariant-loop-cell l = (l.out ≡ l.fn.out ++ length l.row ∷ flat_map cell_bytes (take l.cell-index l.row)) × (list_all has_cell_bytes (take l.cell-index l.row) ≡ true)
