use Rattle.std.proofs.Common.{◌≡◌, drop}
use Rattle.sr_tables.specs.Steps.{removed_by}
use Rattle.sr_tables.proofs.delete.remove_all.Given as goal

abbrev pub invariant-loop-i : goal.invariant-loop-i
invariant-loop-i l = removed_by l.rows (drop l.i l.changes) ≡ removed_by l.initial.rows l.changes
