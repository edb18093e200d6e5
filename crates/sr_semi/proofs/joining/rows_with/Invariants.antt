use Rattle.std.proofs.Common.{◌≡◌, ◌++◌, drop}
use Rattle.sr_semi.specs.Keys.{with_key}
use Rattle.sr_semi.proofs.joining.rows_with.Given as goal

abbrev pub invariant-loop-row : goal.invariant-loop-row
invariant-loop-row l = l.found ++ with_key l.place (drop l.row-index l.rows) l.key ≡ with_key l.place l.rows l.key
