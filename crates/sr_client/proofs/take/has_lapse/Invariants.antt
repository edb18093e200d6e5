use Rattle.std.proofs.Common.{◌≡◌, drop}
use Rattle.sr_session.specs.Walks.{has_lapse}
use Rattle.sr_client.proofs.take.has_lapse.Given as goal

abbrev pub invariant-loop-message : goal.invariant-loop-message
invariant-loop-message l = has_lapse (drop l.message-index l.messages) ≡ has_lapse l.messages
