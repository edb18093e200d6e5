use Rattle.std.proofs.Common.{◌≡◌, ◌++◌, length, take, true}
use Rattle.std.specs.List.{flat_map, list_all}
use Rattle.sr_bytes.specs.Spelling.{short_count_bytes, row_bytes, has_row_bytes}
use Rattle.sr_bytes.proofs.write.push_rows.Given as goal

abbrev pub invariant-loop-row : goal.invariant-loop-row
invariant-loop-row l = (l.out ≡ l.fn.out ++ (short_count_bytes (length l.rows) ++ flat_map row_bytes (take l.row-index l.rows))) × (list_all has_row_bytes (take l.row-index l.rows) ≡ true)
