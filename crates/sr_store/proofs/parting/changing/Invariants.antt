use Rattle.std.proofs.Common.{drop}
use Rattle.std.specs.List.{AllZip}
use Rattle.sr_store.specs.Making.{IsStillOr}
use Rattle.sr_store.proofs.Making.{Completes}
use Rattle.sr_store.proofs.parting.changing.Given as goal

abbrev pub invariant-loop-region : goal.invariant-loop-region
invariant-loop-region l = Completes (λ gs fs. AllZip (IsStillOr l.number l.parts) fs gs) l.regions l.flags (drop l.region-index l.regions)
