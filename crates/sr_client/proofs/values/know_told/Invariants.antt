use Rattle.std.proofs.Common.{◌≡◌, drop}
use Rattle.std.specs.List.{list_all}
use Rattle.sr_client.specs.Values.{tells_values}
use Rattle.sr_client.proofs.values.know_told.Given as goal

abbrev pub invariant-loop-tell : goal.invariant-loop-tell
invariant-loop-tell l = list_all tells_values (drop l.tell-index l.told) ≡ list_all tells_values l.told
