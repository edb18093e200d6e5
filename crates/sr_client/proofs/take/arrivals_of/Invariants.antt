use Rattle.std.proofs.Common.{◌≡◌, map, take}
use Rattle.sr_client.specs.Arriving.{unfilled}
use Rattle.sr_client.proofs.take.arrivals_of.Given as goal

abbrev pub invariant-loop-ask : goal.invariant-loop-ask
invariant-loop-ask l = l.arrivals.items ≡ map (unfilled l.schema) (take l.ask-index l.asks)
