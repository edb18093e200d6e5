use Rattle.std.proofs.Common.{◌≡◌, ◌++◌, drop, map}
use Rattle.sr_query.specs.Binding.{columns_of_part}
use Rattle.sr_query.specs.Bound.{output_of}
use Rattle.sr_resolve.proofs.outputs.push_columns.Given as goal

abbrev pub invariant-loop-column : goal.invariant-loop-column
invariant-loop-column l =
    map output_of l.outputs ++ columns_of_part l.part l.column (drop l.column l.columns) ≡ map output_of l.initial.outputs ++ columns_of_part l.part 0 l.columns
