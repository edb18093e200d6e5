use Rattle.std.proofs.Common.{◌≡◌, take, map}
use Rattle.sr_grammar.specs.Trees.{column_of}
use Rattle.sr_sql.proofs.judge.columns_of.Given as goal

abbrev pub invariant-loop-column : goal.invariant-loop-column
invariant-loop-column l = l.all ≡ map column_of (take l.column-index l.columns)
