use Rattle.std.specs.Prelude.{◌≡◌, ◌++◌, length, take}
use Rattle.std.specs.List.{flat_map}
use Rattle.sr_bytes.specs.Spelling.{count_bytes}
use Rattle.sr_handle.specs.Packed.{packed_cell}
use Rattle.sr_handle.proofs.pack.push_row.Given as goal

abbrev pub invariant-loop-cell : goal.invariant-loop-cell
invariant-loop-cell l = l.out ≡ l.fn.out ++ (count_bytes (length l.row) ++ flat_map packed_cell (take l.cell-index l.row))
