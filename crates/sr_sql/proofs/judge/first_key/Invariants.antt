use Rattle.std.proofs.Common.{◌≡◌, ◌+◌, drop}
use Rattle.sr_grammar.specs.Trees.{key_of}
use Rattle.sr_sql.proofs.judge.first_key.Given as goal

abbrev pub invariant-loop-i : goal.invariant-loop-i
invariant-loop-i l = l.i + key_of (drop l.i l.columns) ≡ key_of l.columns
