use Rattle.std.proofs.Common.{◌≡◌, ◌++◌, drop, map}
use Rattle.sr_semi.specs.Keys.{literal_of}
use Rattle.sr_semi.proofs.texts.literals.Given as goal

abbrev pub invariant-loop-cell : goal.invariant-loop-cell
invariant-loop-cell l = l.literals ++ map literal_of (drop l.cell-index l.cells) ≡ map literal_of l.cells
