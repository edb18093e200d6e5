use Rattle.std.proofs.Common.{◌≡◌, true, take}
use Rattle.std.specs.List.{list_all}
use Rattle.sr_bytes.specs.Spelling.{has_row_bytes}
use Rattle.sr_image.proofs.known.know_rows.Given as goal

abbrev pub invariant-loop-row : goal.invariant-loop-row
invariant-loop-row l = list_all has_row_bytes (take l.row-index l.rows) ≡ true
