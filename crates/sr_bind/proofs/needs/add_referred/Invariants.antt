use Rattle.std.proofs.Common.{◌≡◌, ◌++◌, take, map}
use Rattle.sr_query.specs.Bound.{output_of}
use Rattle.sr_bind.specs.Referred.{reference_of}
use Rattle.sr_bind.proofs.needs.add_referred.Given as goal

abbrev pub invariant-loop-reference : goal.invariant-loop-reference
invariant-loop-reference l = map output_of l.named ≡ map output_of l.fn.named ++ map (λ r. r.1) (map reference_of (take l.reference-index l.reference-items))
