use Rattle.std.proofs.Common.{◌≡◌, true, take}
use Rattle.std.specs.List.{list_all}
use Rattle.sr_bytes.specs.Spelling.{has_cell_bytes}
use Rattle.sr_image.proofs.known.know_row.Given as goal

abbrev pub invariant-loop-cell : goal.invariant-loop-cell
invariant-loop-cell l = list_all has_cell_bytes (take l.cell-index l.row) ≡ true
