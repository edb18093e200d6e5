use Rattle.sr_bytes.proofs.Values.{cell_exact}
use Rattle.sr_bytes.proofs.laws.cells_are_exact.Goals as goal

pub returns : goal.returns
returns c = cell_exact
