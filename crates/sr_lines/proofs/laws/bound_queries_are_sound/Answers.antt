use Rattle.sr_lines.proofs.Sound.{bound_are_sound}
use Rattle.sr_lines.proofs.laws.bound_queries_are_sound.Goals as goal

pub returns : goal.returns
returns c = bound_are_sound
