use Rattle.std.proofs.Common.{◌≡◌, ◌++◌, drop, map}
use Rattle.sr_query.specs.Writes.{numbers_from, value_for}
use Rattle.sr_bind.specs.Written.{cells_of}
use Rattle.sr_bind.proofs.inserts.cells_in_order.Given as goal

abbrev pub invariant-loop-column : goal.invariant-loop-column
invariant-loop-column l =
    l.cells ++ map (λ c. value_for c l.columns (cells_of l.literals)) (numbers_from l.column (drop l.column l.table.columns))
    ≡ map (λ c. value_for c l.columns (cells_of l.literals)) (numbers_from 0 l.table.columns)
