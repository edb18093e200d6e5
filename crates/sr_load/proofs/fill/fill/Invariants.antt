use Rattle.std.proofs.Common.{◌≡◌, drop}
use Rattle.sr_load.specs.Filling.{filled}
use Rattle.sr_tables.specs.Stored.{no_rows}
use Rattle.sr_load.proofs.fill.fill.Given as goal

abbrev pub invariant-loop-i : goal.invariant-loop-i
invariant-loop-i l = record {
  filled : filled l.fn.schema l.loads (no_rows l.fn.schema) ≡ filled l.fn.schema (drop l.i l.loads) l.tables.rows;
  schema : l.tables.schema ≡ l.fn.schema;
}
