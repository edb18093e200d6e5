use Rattle.std.proofs.Common.{◌≡◌, drop}
use Rattle.sr_image.specs.Reading.{are_alike}
use Rattle.sr_image.proofs.read.are_alike.Given as goal

abbrev pub invariant-loop-own : goal.invariant-loop-own
invariant-loop-own l = are_alike l.front l.bytes ≡ are_alike (drop l.own-index l.front) l.left
