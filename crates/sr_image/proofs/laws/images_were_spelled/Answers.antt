use Rattle.sr_image.proofs.Spelled.{was-spelled}
use Rattle.sr_image.proofs.laws.images_were_spelled.Goals as goal

pub returns : goal.returns
returns c = was-spelled
