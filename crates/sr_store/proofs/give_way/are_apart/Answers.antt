use Rattle.std.proofs.Common.{◌∙◌}
use Rattle.sr_store.proofs.Sharing.{shares-symm}
use Rattle.sr_store.proofs.give_way.are_apart.Goals as goal

pub returns-else-is_below : goal.returns-else-is_below
returns-else-is_below c = λ below. shares-symm c.args.place c.args.others.now c.args.rows.now ∙ c.is_below-else-is_below.ensures below
