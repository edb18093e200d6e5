use Rattle.std.proofs.Common.{◌≡◌, drop}
use Rattle.sr_store.specs.Making.{shares_key}
use Rattle.sr_store.proofs.give_way.share_far.Given as goal

abbrev pub invariant-loop-row : goal.invariant-loop-row
invariant-loop-row l = shares_key l.place l.others (drop l.row-index l.rows) ≡ shares_key l.place l.others l.rows
