use Rattle.std.specs.BTreeMap.{values}
use Rattle.sr_keyed.proofs.PlaceOrder.{none-indexed}
use Rattle.sr_keyed.proofs.index.Index.index.Goals as goal

pub returns-in-Err : goal.returns-in-Err
returns-in-Err c all = none-indexed c.clear.new.self c.args.key c.clear.ensures (values c.args.rows.now)
