use Rattle.sr_agg.proofs.Lawful.{order-is-nothing}
use Rattle.sr_agg.proofs.laws.order_is_nothing.Goals as goal

pub returns : goal.returns
returns c = order-is-nothing
