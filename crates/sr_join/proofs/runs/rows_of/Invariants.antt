use Rattle.std.proofs.Common.{◌≡◌, take}
use Rattle.sr_join.proofs.runs.rows_of.Given as goal

abbrev pub invariant-loop-row : goal.invariant-loop-row
invariant-loop-row l = l.rows ≡ take l.row-index l.row-items
