use Rattle.sr_session.proofs.RowLemmas.{rows-are-asked}
use Rattle.sr_session.proofs.laws.rows_are_asked.Goals as goal

pub returns : goal.returns
returns c = rows-are-asked
