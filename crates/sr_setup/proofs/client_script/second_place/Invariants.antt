use Rattle.std.proofs.Common.{◌≡◌, ◌+◌, drop}
use Rattle.sr_setup.specs.ClientFiles.{second_place}
use Rattle.sr_setup.proofs.client_script.second_place.Given as goal

abbrev pub invariant-loop-i : goal.invariant-loop-i
invariant-loop-i l = second_place l.line ≡ second_place (drop l.i l.line) + l.i
