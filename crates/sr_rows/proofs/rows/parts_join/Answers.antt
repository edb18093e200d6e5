use Rattle.sr_rows.proofs.Parts.{with_rows-filters}
use Rattle.sr_rows.proofs.rows.parts_join.Goals as goal

pub returns : goal.returns
returns c = with_rows-filters
