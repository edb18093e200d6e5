use Rattle.std.specs.BTreeMap.{values}
use Rattle.sr_keyed.proofs.PlaceOrder.{column-added}
use Rattle.sr_keyed.proofs.index.Index.push_column.Goals as goal

pub returns : goal.returns
returns c all =
    column-added c.args.self.now.places c.add_column.new.places c.args.key c.args.column c.args.self.now.columns.items c.push.new.self.items c.in_ok-push.ensures.items
    c.add_column.ensures.stays (values c.args.rows.now) c.in_ok-add_column.ensures.added all
