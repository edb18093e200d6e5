use Rattle.std.proofs.Common.{◌≡◌, ◌+◌, ◌≤◌, drop, length, filter}
use Rattle.sr_grammar.specs.Trees.{is_key}
use Rattle.sr_sql.proofs.judge.keys.Given as goal

abbrev pub invariant-loop-column : goal.invariant-loop-column
invariant-loop-column l = record {
  so_far : l.count + length (filter is_key (drop l.column-index l.columns)) ≡ length (filter is_key l.columns);
  few : l.count ≤ l.column-index;
}
