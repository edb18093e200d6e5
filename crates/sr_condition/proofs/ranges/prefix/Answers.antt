use Rattle.sr_condition.proofs.Bounds.{prefix-texts}
use Rattle.sr_condition.proofs.ranges.prefix.Goals as goal

pub returns : goal.returns
returns c = rw (c.in_ok-lo.ensures, c.in_ok-next_prefix.ensures) (prefix-texts c.args.column.now c.args.start.now c.requires c.know_bytes.ensures)
