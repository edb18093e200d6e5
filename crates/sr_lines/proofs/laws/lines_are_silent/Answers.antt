use Rattle.sr_lines.proofs.Parts.{silent_line}
use Rattle.std.proofs.Common.{refl}
use Rattle.sr_lines.proofs.laws.lines_are_silent.Goals as goal

pub returns-clause-comment : goal.returns-clause-comment
returns-clause-comment c = silent_line _ refl refl

pub returns-clause-blank : goal.returns-clause-blank
returns-clause-blank c = silent_line _ refl refl

pub returns-clause-empty : goal.returns-clause-empty
returns-clause-empty c = silent_line _ refl refl
