use Rattle.std.proofs.Common.{◌≡◌, drop}
use Rattle.sr_grammar.specs.Words.{is_prefix}
use Rattle.sr_sql.proofs.words.is_prefix.Given as goal

abbrev pub invariant-loop-i : goal.invariant-loop-i
invariant-loop-i l = is_prefix l.text ≡ is_prefix (drop l.i l.text)
