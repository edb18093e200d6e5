use Rattle.sr_reader.proofs.LineWords.{left_within}
use Rattle.sr_reader.proofs.line.read_event.Goals as goal

pub overflow_sub-result : goal.overflow_sub-result
overflow_sub-result c = left_within c.args.clients c.args.line.now c.in-Err.rest.now c.in-Err.ensures
