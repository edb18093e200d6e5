use Rattle.sr_semi.proofs.Whole.{texts-ask}
use Rattle.sr_semi.proofs.laws.texts_ask_their_parts.Goals as goal

pub returns : goal.returns
returns c = texts-ask
