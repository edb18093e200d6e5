use Rattle.sr_model.proofs.Sides as proved
use Rattle.sr_model.proofs.laws.sides_by_members.Goals as goal

pub returns : goal.returns
returns c = proved.sides_by_members
