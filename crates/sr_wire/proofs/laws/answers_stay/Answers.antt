use Rattle.sr_wire.proofs.Staying.{answer_stays}
use Rattle.sr_wire.proofs.laws.answers_stay.Goals as goal

pub returns : goal.returns
returns c = answer_stays
