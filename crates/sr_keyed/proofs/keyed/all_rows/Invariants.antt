use Rattle.std.proofs.Common.{◌≡◌, ◌++◌}
use Rattle.std.specs.BTreeMap.{values}
use Rattle.sr_keyed.proofs.keyed.all_rows.Given as goal

abbrev pub invariant-loop-row : goal.invariant-loop-row
invariant-loop-row l = l.rows ++ l.row-iterator ≡ values l.fn.map
