use Rattle.std.proofs.Common.{◌++◌, map}
use Rattle.sr_query.specs.Binding.{columns_of_part}
use Rattle.sr_query.specs.Bound.{output_of}
use Rattle.sr_resolve.proofs.Columns.{column_pushed}
use Rattle.sr_resolve.proofs.outputs.push_columns.Goals as goal

pub loop-column-preserved : goal.loop-column-preserved
loop-column-preserved c =
    column_pushed c.args.part c.loop-column.column c.args.columns.now c.loop-column.outputs c.push.new.self
    (map output_of c.args.outputs.now ++ columns_of_part c.args.part 0 c.args.columns.now) c.loop-column-test.true c.loop-column.invariant c.in_ok-push.ensures.pushed
