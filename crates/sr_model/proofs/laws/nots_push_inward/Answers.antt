use Rattle.sr_model.proofs.Sides as proved
use Rattle.sr_model.proofs.laws.nots_push_inward.Goals as goal

pub returns : goal.returns
returns c = proved.nots_push_inward
