use Rattle.std.proofs.Common.{◌≡◌, drop}
use Rattle.std.specs.List.{list_any}
use Rattle.sr_grammar.specs.Trees.{is_nullable, is_null_rule}
use Rattle.sr_sql.proofs.judge.is_nullable.Given as goal

abbrev pub invariant-loop-rule : goal.invariant-loop-rule
invariant-loop-rule l = is_nullable l.column ≡ list_any is_null_rule (drop l.rule-index l.column.rules)
