use Rattle.std.proofs.Common.{◌≡◌, ◌++◌, drop}
use Rattle.sr_semi.specs.Texts.{names_of}
use Rattle.sr_semi.proofs.texts.names_of.Given as goal

abbrev pub invariant-loop-c : goal.invariant-loop-c
invariant-loop-c l = l.names ++ names_of l.c l.need (drop l.c l.table.columns) ≡ names_of 0 l.need l.table.columns
