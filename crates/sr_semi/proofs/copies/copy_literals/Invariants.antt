use Rattle.std.proofs.Common.{◌≡◌, ◌++◌, drop}
use Rattle.sr_semi.proofs.copies.copy_literals.Given as goal

abbrev pub invariant-loop-literal : goal.invariant-loop-literal
invariant-loop-literal l = l.all ++ drop l.literal-index l.literals ≡ l.literals
