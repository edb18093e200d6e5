use Rattle.std.proofs.Common.{◌≡◌, drop}
use Rattle.sr_session.specs.Walks.{version_after}
use Rattle.sr_client.proofs.settle.version_after.Given as goal

abbrev pub invariant-loop-message : goal.invariant-loop-message
invariant-loop-message l = version_after l.last (drop l.message-index l.laid) ≡ version_after l.version l.laid
