use Rattle.std.proofs.Common.{◌≡◌, ◌++◌, drop}
use Rattle.sr_semi.specs.Going.{joined}
use Rattle.sr_semi.specs.Seen.{sides_seen}
use Rattle.sr_semi.proofs.joining.join.Given as goal

abbrev pub invariant-loop-left : goal.invariant-loop-left
invariant-loop-left l = l.answer ++ joined (sides_seen l.sides) (drop l.left-index l.lefts) l.rights ≡ joined (sides_seen l.sides) l.lefts l.rights
