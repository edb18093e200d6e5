use Rattle.std.proofs.Common.{◌≡◌, ◌++◌, drop, map}
use Rattle.sr_cell.specs.Attrs.{project}
use Rattle.sr_tables.specs.ByKey.{rows_with}
use Rattle.sr_tables.proofs.by_key.rows_with.Given as goal

abbrev pub invariant-loop-i : goal.invariant-loop-i
invariant-loop-i l = l.out ++ map (project l.attrs) (rows_with l.rows.key (drop l.i l.keys) l.rows.rows) ≡ map (project l.attrs) (rows_with l.rows.key l.keys l.rows.rows)
