use Rattle.sr_image.proofs.Lawful.{image-lawful}
use Rattle.sr_image.proofs.laws.images_are_lawful.Goals as goal

pub returns : goal.returns
returns c = image-lawful
