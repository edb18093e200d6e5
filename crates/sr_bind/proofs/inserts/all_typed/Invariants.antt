use Rattle.std.proofs.Common.{◌≡◌, ◌++◌, drop, take}
use Rattle.std.specs.Prelude.{Ok}
use Rattle.sr_query.specs.Binding.{◌>>=◌}
use Rattle.sr_query.specs.Writes.{typed_each}
use Rattle.sr_bind.specs.Written.{cells_of}
use Rattle.sr_bind.proofs.inserts.all_typed.Given as goal

abbrev pub invariant-loop-i : goal.invariant-loop-i
invariant-loop-i l =
    typed_each l.table l.columns l.literals
    ≡ (typed_each l.table (drop l.i l.columns) (drop l.i l.literals) >>= λ more. Ok (cells_of (take l.i l.literals) ++ more))
