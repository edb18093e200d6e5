use Rattle.std.specs.Prelude.{◌≡◌, take}
use Rattle.std.specs.List.{flat_map}
use Rattle.sr_handle.specs.Packed.{packed_row}
use Rattle.sr_handle.proofs.pack.pack_rows.Given as goal

abbrev pub invariant-loop-row : goal.invariant-loop-row
invariant-loop-row l = l.out ≡ flat_map packed_row (take l.row-index l.rows)
