use Rattle.std.proofs.Common.{drop}
use Rattle.sr_store.specs.Answered.{AreFlags}
use Rattle.sr_store.specs.Making.{IsAbsorbedBy}
use Rattle.sr_store.proofs.Making.{Completes}
use Rattle.sr_store.proofs.absorb.absorbed.Given as goal

abbrev pub invariant-loop-region : goal.invariant-loop-region
invariant-loop-region l = Completes (λ gs fs. AreFlags (IsAbsorbedBy l.schema l.still l.news) fs gs) l.news l.flags (drop l.region-index l.news)
