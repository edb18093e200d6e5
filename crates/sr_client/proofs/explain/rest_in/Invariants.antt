use Rattle.std.proofs.Common.{◌≡◌, drop}
use Rattle.sr_client.specs.Explaining.{entry_for}
use Rattle.sr_client.proofs.explain.rest_in.Given as goal

abbrev pub invariant-loop-ask : goal.invariant-loop-ask
invariant-loop-ask l = entry_for l.part.table l.asks ≡ entry_for l.part.table (drop l.ask-index l.asks)
