use Rattle.sr_image.proofs.Made.{may-be-made}
use Rattle.sr_image.proofs.laws.images_may_be_made.Goals as goal

pub returns : goal.returns
returns c = may-be-made
