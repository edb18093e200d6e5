use Rattle.sr_agg.proofs.Reading.{item_less}
use Rattle.sr_agg.proofs.read.aggregate.Goals as goal

pub list-requires : goal.list-requires
list-requires c = item_less
