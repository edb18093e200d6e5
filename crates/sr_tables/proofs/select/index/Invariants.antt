use Rattle.std.proofs.Common.{◌≡◌}
use Rattle.sr_tables.proofs.select.index.Given as goal

abbrev pub invariant-loop-column : goal.invariant-loop-column
invariant-loop-column l = l.rows ≡ l.fn.rows
