use Rattle.sr_image.proofs.Writable.{may-be-written}
use Rattle.sr_image.proofs.laws.images_may_be_written.Goals as goal

pub returns : goal.returns
returns c = may-be-written
