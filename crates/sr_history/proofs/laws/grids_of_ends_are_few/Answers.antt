use Rattle.sr_history.proofs.Ends.{grids_are_few}
use Rattle.sr_history.proofs.laws.grids_of_ends_are_few.Goals as goal

pub returns : goal.returns
returns c = grids_are_few
