use Rattle.std.proofs.Common.{◌≡◌, drop}
use Rattle.std.specs.List.{list_any}
use Rattle.sr_grammar.specs.Trees.{has_bad_domain, is_bad_rule}
use Rattle.sr_sql.proofs.judge.has_bad_domain.Given as goal

abbrev pub invariant-loop-rule : goal.invariant-loop-rule
invariant-loop-rule l = has_bad_domain l.column ≡ list_any (is_bad_rule l.column.name l.column.kind) (drop l.rule-index l.column.rules)
