use Rattle.sr_history.proofs.Ends.{more_parts_keep_ends}
use Rattle.sr_history.proofs.laws.more_parts_keep_the_ends.Goals as goal

pub returns : goal.returns
returns c = more_parts_keep_ends
