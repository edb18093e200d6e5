use Rattle.sr_script.proofs.OneReading.{texts_tell_lines}
use Rattle.sr_script.proofs.laws.texts_tell_lines.Goals as goal

pub returns : goal.returns
returns c = texts_tell_lines
