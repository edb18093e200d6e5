use Rattle.std.proofs.Common.{take}
use Rattle.sr_client.proofs.AskLemmas.{IsAskedOf}
use Rattle.sr_client.proofs.asks.asks_of.Given as goal

abbrev pub invariant-loop-part : goal.invariant-loop-part
invariant-loop-part l = IsAskedOf l.schema l.store.regions (take l.part-index l.parts) l.room l.asks
