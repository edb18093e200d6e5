use Rattle.std.proofs.Common.{◌≡◌, take}
use Rattle.sr_client.specs.Asking.{whole_asks}
use Rattle.sr_client.proofs.asks.whole_asks.Given as goal

abbrev pub invariant-loop-part : goal.invariant-loop-part
invariant-loop-part l = l.asks ≡ whole_asks (take l.part-index l.parts)
