use Rattle.sr_wire.proofs.Decoding.{first_of, has_of, every_of}
use Rattle.sr_cell.proofs.Columns.{are_bytes-fit}
use Rattle.sr_wire.proofs.frame.decode.Goals as goal

pub returns-clause-first : goal.returns-clause-first
returns-clause-first c = first_of c.args.bytes.now c.exactly.result (are_bytes-fit c.args.bytes.now c.type_inv.bytes) c.exactly.ensures

pub returns-clause-spelled : goal.returns-clause-spelled
returns-clause-spelled c = has_of c.args.bytes.now c.exactly.result (are_bytes-fit c.args.bytes.now c.type_inv.bytes) c.exactly.ensures

pub returns-clause-every : goal.returns-clause-every
returns-clause-every c m rest h is = every_of c.args.bytes.now c.exactly.result m rest c.exactly.ensures h is
