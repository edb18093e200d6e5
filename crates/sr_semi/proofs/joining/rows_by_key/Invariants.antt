use Rattle.std.proofs.Common.{◌≡◌, ◌++◌, drop}
use Rattle.sr_semi.specs.Keys.{by_key}
use Rattle.sr_semi.proofs.joining.rows_by_key.Given as goal

abbrev pub invariant-loop-key : goal.invariant-loop-key
invariant-loop-key l = l.found ++ by_key l.place l.rows (drop l.key-index l.keys) ≡ by_key l.place l.rows l.keys
