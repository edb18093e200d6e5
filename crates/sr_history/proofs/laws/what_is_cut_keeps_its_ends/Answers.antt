use Rattle.sr_history.proofs.Ends.{cuts_keep_ends}
use Rattle.sr_history.proofs.laws.what_is_cut_keeps_its_ends.Goals as goal

pub returns : goal.returns
returns c = cuts_keep_ends
