use Rattle.std.proofs.Common.{◌≡◌, take, map}
use Rattle.sr_client.specs.Explaining.{victim_of}
use Rattle.sr_client.proofs.victims.left_of.Given as goal

abbrev pub invariant-loop-region : goal.invariant-loop-region
invariant-loop-region l = l.left ≡ map victim_of (take l.region-index l.regions)
