use Rattle.sr_regions.proofs.Telling.{named-all}
use Rattle.sr_regions.proofs.regions.Regions.of.Goals as goal

pub invariant_of-result : goal.invariant_of-result
invariant_of-result c = λ n g there. named-all n g
