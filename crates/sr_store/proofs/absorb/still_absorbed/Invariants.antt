use Rattle.std.proofs.Common.{drop}
use Rattle.sr_store.specs.Answered.{AreFlags}
use Rattle.sr_store.specs.Making.{IsAbsorbedBy}
use Rattle.sr_store.proofs.Making.{Completes}
use Rattle.sr_store.proofs.absorb.still_absorbed.Given as goal

abbrev pub invariant-loop-i : goal.invariant-loop-i
invariant-loop-i l = Completes (λ gs fs. AreFlags (IsAbsorbedBy l.schema l.still l.news) fs gs) l.still l.flags (drop l.i l.still)
