use Rattle.std.proofs.Common.{◌≡◌, ◌++◌, drop, map}
use Rattle.sr_query.specs.Bound.{output_of}
use Rattle.sr_query.specs.Meant.{meant}
use Rattle.sr_bind.specs.Needs.{compared_columns}
use Rattle.sr_bind.proofs.needs.add_compared.Given as goal

abbrev pub invariant-loop-conjunct : goal.invariant-loop-conjunct
invariant-loop-conjunct l =
    map output_of l.named ++ compared_columns (map meant (drop l.conjunct-index l.conjuncts)) ≡ map output_of l.fn.named ++ compared_columns (map meant l.conjuncts)
