use Rattle.std.proofs.Common.{◌≡◌, drop}
use Rattle.sr_semi.specs.Keys.{all_have}
use Rattle.sr_semi.proofs.keys.Keys.all_have.Given as goal

abbrev pub invariant-loop-row : goal.invariant-loop-row
invariant-loop-row l = all_have l.place l.self l.rows ≡ all_have l.place l.self (drop l.row-index l.rows)
