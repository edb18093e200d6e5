use Rattle.std.proofs.Common.{◌≡◌, None}
use Rattle.std.specs.Prelude.{replicate}
use Rattle.sr_server.proofs.server.Server.new.Given as goal

abbrev pub invariant-clients : goal.invariant-clients
invariant-clients l = l.sessions ≡ replicate l.counter None
