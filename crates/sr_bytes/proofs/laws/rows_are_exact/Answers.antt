use Rattle.sr_bytes.proofs.Values.{rows_exact}
use Rattle.sr_bytes.proofs.laws.rows_are_exact.Goals as goal

pub returns : goal.returns
returns c = rows_exact
