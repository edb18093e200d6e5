use Rattle.sr_tables.proofs.Keys.{same-rows}
use Rattle.sr_tables.proofs.changes.is_same_row.Goals as goal

pub returns : goal.returns
returns c = same-rows c.same.result c.args.one.now c.args.other.now c.same.ensures
