use Rattle.std.proofs.Common.{◌≡◌, drop}
use Rattle.sr_query.specs.Binding.{column_named}
use Rattle.sr_load.proofs.header.column_named.Given as goal

abbrev pub invariant-loop-i : goal.invariant-loop-i
invariant-loop-i l = column_named l.i (drop l.i l.columns) l.name ≡ column_named 0 l.columns l.name
