use Rattle.std.proofs.Common.{◌≡◌, ◌++◌, take, map}
use Rattle.sr_session.specs.Sessions.{holding_of}
use Rattle.sr_server.proofs.serve.subscribe.Given as goal

abbrev pub invariant-loop-part : goal.invariant-loop-part
invariant-loop-part l = l.subs ≡ l.initial.subs ++ map (holding_of l.wire) (take l.part-index l.parts)
