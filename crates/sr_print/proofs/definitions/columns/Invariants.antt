use Rattle.std.proofs.Common.{◌≡◌, ◌+◌, drop}
use Rattle.sr_grammar.specs.Printed.{columns, columns_behind}
use Rattle.sr_print.specs.Writes.{written}
use Rattle.sr_print.proofs.definitions.columns.Given as goal

abbrev pub invariant-loop-index : goal.invariant-loop-index
invariant-loop-index l = written l.printer (columns_behind l.key (l.index + 1) (drop l.index l.others)) ≡ written l.fn.printer (columns l.key l.all)
