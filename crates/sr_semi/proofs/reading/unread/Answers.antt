use Rattle.std.proofs.Common.{sym, ap}
use Rattle.std.specs.Prelude.{Err}
use Rattle.sr_semi.proofs.Looking.{said_is_read, unsaid_is_unread}
use Rattle.sr_semi.proofs.reading.unread.Goals as goal

pub returns-in-Ok-clause-read : goal.returns-in-Ok-clause-read
returns-in-Ok-clause-read c = sym (said_is_read c.args.text.now _ c.in-Ok.ensures.found)

pub returns-in-Err-Refused-clause-read : goal.returns-in-Err-Refused-clause-read
returns-in-Err-Refused-clause-read c = sym (unsaid_is_unread c.args.text.now _ (c.in-Err-Refused.ensures.refused c.in-Err-Refused.fault (ap Err c.in-Err-Refused.field-0-is)))
