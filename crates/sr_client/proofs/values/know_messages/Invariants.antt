use Rattle.std.proofs.Common.{◌≡◌, drop}
use Rattle.std.specs.List.{list_all}
use Rattle.sr_client.specs.Values.{has_values}
use Rattle.sr_client.proofs.values.know_messages.Given as goal

abbrev pub invariant-loop-message : goal.invariant-loop-message
invariant-loop-message l = list_all has_values (drop l.message-index l.messages) ≡ list_all has_values l.messages
