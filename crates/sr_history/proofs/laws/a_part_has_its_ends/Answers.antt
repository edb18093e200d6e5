use Rattle.sr_history.proofs.Ends.{parts_have_their_ends}
use Rattle.sr_history.proofs.laws.a_part_has_its_ends.Goals as goal

pub returns : goal.returns
returns c = parts_have_their_ends
