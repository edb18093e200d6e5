use Rattle.std.proofs.Common.{◌≡◌, drop}
use Rattle.std.specs.List.{list_any}
use Rattle.sr_grammar.specs.Trees.{has_bad_domain}
use Rattle.sr_sql.proofs.judge.any_bad_domain.Given as goal

abbrev pub invariant-loop-column : goal.invariant-loop-column
invariant-loop-column l = list_any has_bad_domain l.columns ≡ list_any has_bad_domain (drop l.column-index l.columns)
