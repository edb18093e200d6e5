use Rattle.std.proofs.Common.{◌≡◌, drop}
use Rattle.std.specs.List.{list_any}
use Rattle.sr_grammar.specs.Trees.{is_key, is_key_rule}
use Rattle.sr_sql.proofs.judge.is_key.Given as goal

abbrev pub invariant-loop-rule : goal.invariant-loop-rule
invariant-loop-rule l = is_key l.column ≡ list_any is_key_rule (drop l.rule-index l.column.rules)
