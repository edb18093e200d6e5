use Rattle.sr_session.proofs.TellLemmas.{promised-tells-suit}
use Rattle.sr_session.proofs.laws.promised_tells_suit.Goals as goal

pub returns : goal.returns
returns c = promised-tells-suit
