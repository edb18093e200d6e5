use Rattle.std.proofs.Common.{◌≡◌, drop}
use Rattle.std.specs.List.{list_any}
use Rattle.sr_grammar.specs.Trees.{is_nullable_key}
use Rattle.sr_sql.proofs.judge.any_nullable_key.Given as goal

abbrev pub invariant-loop-column : goal.invariant-loop-column
invariant-loop-column l = list_any is_nullable_key l.columns ≡ list_any is_nullable_key (drop l.column-index l.columns)
