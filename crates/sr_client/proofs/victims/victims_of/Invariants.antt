use Rattle.std.proofs.Common.{length}
use Rattle.sr_client.proofs.FallLemmas.{FallsSoFar}
use Rattle.sr_client.proofs.victims.victims_of.Given as goal

abbrev pub invariant-loop-number : goal.invariant-loop-number
invariant-loop-number l = FallsSoFar l.schema l.store.limits.policy l.store.last l.store.regions l.views l.left l.fallen

abbrev pub decreases-loop-number : goal.decreases-loop-number
decreases-loop-number l = length l.views
