use Rattle.sr_image.proofs.Stored.{image-of-store}
use Rattle.sr_image.proofs.laws.images_of_stores.Goals as goal

pub returns : goal.returns
returns c = image-of-store
