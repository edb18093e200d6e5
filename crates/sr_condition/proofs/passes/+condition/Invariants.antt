use Rattle.std.proofs.Common.{◌≡◌, drop}
use Rattle.sr_cell.specs.Cells.{cell_at}
use Rattle.sr_model.specs.Sides.{all_say, some_say}
use Rattle.sr_query.specs.Meant.{members}
use Rattle.sr_condition.proofs.passes.+condition.Given as goal

abbrev pub invariant-all_say-loop-condition : goal.invariant-all_say-loop-condition
invariant-all_say-loop-condition l =
    all_say l.plain (cell_at l.row) (members (drop l.condition-index l.all)) ≡ all_say l.plain (cell_at l.row) (members l.all)

abbrev pub invariant-some_say-loop-condition : goal.invariant-some_say-loop-condition
invariant-some_say-loop-condition l =
    some_say l.plain (cell_at l.row) (members (drop l.condition-index l.all)) ≡ some_say l.plain (cell_at l.row) (members l.all)
