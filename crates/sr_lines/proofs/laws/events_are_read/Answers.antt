use Rattle.std.proofs.Common.{refl}
use Rattle.sr_lines.proofs.laws.events_are_read.Goals as goal

pub returns-clause-digits : goal.returns-clause-digits
returns-clause-digits c = refl

pub returns-clause-place : goal.returns-clause-place
returns-clause-place c = refl

pub returns-clause-text_is_the_rest : goal.returns-clause-text_is_the_rest
returns-clause-text_is_the_rest c = refl
