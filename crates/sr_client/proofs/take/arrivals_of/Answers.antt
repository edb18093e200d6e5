use Rattle.std.proofs.Common.{rules}
use Rattle.sr_client.specs.Arriving.{unfilled}
use Rattle.sr_client.proofs.Items.{map-item}
use Rattle.sr_client.proofs.take.arrivals_of.Goals as goal

pub loop-ask-preserved : goal.loop-ask-preserved
loop-ask-preserved c =
    map-item (unfilled c.args.schema.now) c.args.asks.now c.loop-ask.ask-index c.ask-item.result c.loop-ask.arrivals.items c.push.new.self.items c.in_ok-arrival_of.field-0 (search rules) c.ask-item.is
    c.in_ok-arrival_of.ensures c.loop-ask.invariant c.in_ok-push.ensures.items
