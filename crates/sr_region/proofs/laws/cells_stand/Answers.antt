use Rattle.sr_region.proofs.Ranks.{stand}
use Rattle.sr_region.proofs.laws.cells_stand.Goals as goal

pub returns : goal.returns
returns c = stand
