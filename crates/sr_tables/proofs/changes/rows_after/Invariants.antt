use Rattle.std.proofs.Common.{◌≡◌, ◌++◌, drop}
use Rattle.std.specs.List.{filter_map}
use Rattle.sr_tables.proofs.changes.rows_after.Given as goal

abbrev pub invariant-loop-i : goal.invariant-loop-i
invariant-loop-i l = l.rows ++ filter_map (λ c. c.after) (drop l.i l.changes) ≡ filter_map (λ c. c.after) l.changes
