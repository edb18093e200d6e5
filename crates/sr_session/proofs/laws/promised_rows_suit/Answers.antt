use Rattle.sr_session.proofs.ShapeLemmas.{promised-rows-suit}
use Rattle.sr_session.proofs.laws.promised_rows_suit.Goals as goal

pub returns : goal.returns
returns c = promised-rows-suit
