use Rattle.std.proofs.Common.{◌≡◌, ◌++◌, drop, take, map}
use Rattle.std.specs.Prelude.{Ok}
use Rattle.sr_query.specs.Binding.{◌>>=◌, each}
use Rattle.sr_query.specs.Meant.{meant}
use Rattle.sr_bind.specs.OneTable.{one_table, done}
use Rattle.sr_bind.proofs.mixed.one_table_each.Given as goal

abbrev pub invariant-loop-conjunct : goal.invariant-loop-conjunct
invariant-loop-conjunct l =
    each one_table (map meant l.conjuncts)
    ≡ (each one_table (map meant (drop l.conjunct-index l.conjuncts)) >>= λ more. Ok (done (map meant (take l.conjunct-index l.conjuncts)) ++ more))
