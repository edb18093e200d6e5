use Rattle.std.proofs.Common.{Err, ap}
use Rattle.sr_reader.proofs.meaning.said.Goals as goal

pub returns-in-Err-Refused : goal.returns-in-Err-Refused
returns-in-Err-Refused c = c.in-Err-Refused.ensures.refused c.in-Err-Refused.fault (ap Err c.in-Err-Refused.field-0-is)
