use Rattle.std.proofs.Common.{◌≡◌, ◌++◌, drop}
use Rattle.std.specs.Prelude.{Ok}
use Rattle.sr_query.specs.Binding.{◌>>=◌, each}
use Rattle.sr_query.specs.Writes.{row_of}
use Rattle.sr_bind.proofs.inserts.ordered_rows.Given as goal

abbrev pub invariant-loop-row : goal.invariant-loop-row
invariant-loop-row l =
    each (row_of l.table l.columns) l.rows ≡ (each (row_of l.table l.columns) (drop l.row-index l.rows) >>= λ more. Ok (l.ordered ++ more))
