use Rattle.std.proofs.Common.{◌≡◌, ◌++◌}
use Rattle.sr_join.specs.Lent.{shown_of}
use Rattle.sr_join.proofs.lending.shown_of.Given as goal

abbrev pub invariant-loop-lent : goal.invariant-loop-lent
invariant-loop-lent l = l.all ++ shown_of l.lent-iterator ≡ shown_of l.fn.rows
