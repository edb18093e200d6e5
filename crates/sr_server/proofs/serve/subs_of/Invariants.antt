use Rattle.std.proofs.Common.{◌≡◌, take}
use Rattle.sr_server.proofs.serve.subs_of.Given as goal

abbrev pub invariant-loop-holding : goal.invariant-loop-holding
invariant-loop-holding l = l.subs ≡ take l.holding-index l.holdings
