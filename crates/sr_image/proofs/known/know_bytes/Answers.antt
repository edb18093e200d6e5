use Rattle.sr_cell.proofs.Columns.{are_bytes-fit}
use Rattle.sr_image.proofs.known.know_bytes.Goals as goal

pub returns : goal.returns
returns c = are_bytes-fit c.args.text.now c.type_inv.text
