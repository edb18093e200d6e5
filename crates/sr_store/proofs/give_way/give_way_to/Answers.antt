use Rattle.std.proofs.Common.{sym, ◌∙◌}
use Rattle.sr_store.proofs.Removing.{way-other}
use Rattle.sr_store.proofs.give_way.give_way_to.Goals as goal

pub returns-else-is_under : goal.returns-else-is_under
returns-else-is_under c = way-other c.args.arrival.now c.args.region.now (sym c.is_under.ensures ∙ c.if-is_under.false)
