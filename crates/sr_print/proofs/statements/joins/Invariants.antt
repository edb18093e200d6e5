use Rattle.std.proofs.Common.{◌≡◌, drop, flat_map}
use Rattle.sr_grammar.specs.Printed as tokens
use Rattle.sr_print.specs.Writes.{written}
use Rattle.sr_print.proofs.statements.joins.Given as goal

abbrev pub invariant-loop-one : goal.invariant-loop-one
invariant-loop-one l = written l.printer (flat_map tokens.join (drop l.one-index l.all)) ≡ written l.fn.printer (flat_map tokens.join l.all)
