use Rattle.std.proofs.Common.{◌≡◌, ◌++◌, drop, map}
use Rattle.sr_query.specs.Binding.{all_references}
use Rattle.sr_query.specs.Meant.{meant, bounds_of}
use Rattle.sr_bind.specs.Referred.{reference_of}
use Rattle.sr_bind.proofs.references.+references.Given as goal

abbrev pub invariant-refer_all-loop-condition : goal.invariant-refer_all-loop-condition
invariant-refer_all-loop-condition l =
    map reference_of l.found ++ all_references (bounds_of (map meant (drop l.condition-index l.conditions)))
    ≡ map reference_of l.fn.found ++ all_references (bounds_of (map meant l.conditions))
