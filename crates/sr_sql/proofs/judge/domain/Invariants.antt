use Rattle.std.proofs.Common.{◌≡◌, drop}
use Rattle.sr_grammar.specs.Trees.{checked, column_of, is_nullable}
use Rattle.sr_sql.proofs.judge.domain.Given as goal

abbrev pub invariant-loop-rule : goal.invariant-loop-rule
invariant-loop-rule l = column_of l.column ≡ checked l.column.name l.column.kind (is_nullable l.column) (drop l.rule-index l.column.rules)
