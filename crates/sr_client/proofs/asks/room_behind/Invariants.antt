use Rattle.std.proofs.Common.{◌≡◌, ◌+◌, drop}
use Rattle.sr_message.specs.Sizes.{count_asked}
use Rattle.sr_client.proofs.asks.room_behind.Given as goal

abbrev pub invariant-loop-ask : goal.invariant-loop-ask
invariant-loop-ask l = l.left + count_asked l.asks ≡ l.fn.room + count_asked (drop l.ask-index l.asks)
