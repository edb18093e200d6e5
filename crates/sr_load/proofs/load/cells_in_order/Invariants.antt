use Rattle.std.proofs.Common.{◌≡◌, ◌++◌, drop, map}
use Rattle.sr_query.specs.Writes.{numbers_from, value_for}
use Rattle.sr_load.proofs.load.cells_in_order.Given as goal

abbrev pub invariant-loop-column : goal.invariant-loop-column
invariant-loop-column l =
    l.row ++ map (λ c. value_for c l.columns l.cells) (numbers_from l.column (drop l.column l.table.columns))
    ≡ map (λ c. value_for c l.columns l.cells) (numbers_from 0 l.table.columns)
