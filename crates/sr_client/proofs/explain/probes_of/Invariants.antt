use Rattle.std.proofs.Common.{take}
use Rattle.sr_client.specs.Explaining.{AreProbes}
use Rattle.sr_client.proofs.explain.probes_of.Given as goal

abbrev pub invariant-loop-region : goal.invariant-loop-region
invariant-loop-region l = AreProbes l.part (take l.region-index l.regions) l.probes
