use Rattle.std.proofs.Common.{◌≡◌, take}
use Rattle.sr_tables.specs.Added.{added_rows}
use Rattle.sr_tables.proofs.put.changes_of.Given as goal

abbrev pub invariant-loop-row : goal.invariant-loop-row
invariant-loop-row l = l.changes ≡ added_rows l.number l.key (take l.row-index l.added)
