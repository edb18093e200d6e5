use Rattle.sr_condition.proofs.Bounds.{between-texts}
use Rattle.sr_condition.proofs.ranges.text_between.Goals as goal

pub returns : goal.returns
returns c =
    rw (c.in_ok-same_text.ensures, c.in_ok-next_text.ensures) (between-texts c.args.column.now c.args.low.now c.args.high.now c.requires.kind c.know_bytes.ensures c.know_bytes-2.ensures c.requires.order)
