use Rattle.sr_cell.proofs.Columns.{are_bytes-fit}
use Rattle.sr_cli.proofs.ImageLemmas.{image-whole}
use Rattle.sr_cli.proofs.warm.image_over.Goals as goal

pub returns-clause-whole : goal.returns-clause-whole
returns-clause-whole c = image-whole c.args.schema.now c.args.bytes.now c.read_image.result (are_bytes-fit c.args.bytes.now c.type_inv.bytes) c.read_image.ensures
