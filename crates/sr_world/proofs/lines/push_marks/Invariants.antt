use Rattle.std.proofs.Common.{◌≡◌, ◌++◌}
use Rattle.std.specs.Vec.Iter.{into_iter_items}
use Rattle.sr_runs.specs.Lines.{mark_lines}
use Rattle.sr_world.proofs.lines.push_marks.Given as goal

abbrev pub invariant-loop-mark : goal.invariant-loop-mark
invariant-loop-mark l = l.lines ++ mark_lines l.client (into_iter_items l.mark-iterator) ≡ l.fn.lines ++ mark_lines l.client l.fn.marks
