use Rattle.std.proofs.Common.{◌≡◌, ◌++◌}
use Rattle.std.specs.Vec.Iter.{into_iter_items}
use Rattle.sr_union.specs.Search.{todos}
use Rattle.sr_union.proofs.search.push_todos.Given as goal

abbrev pub invariant-loop-rect : goal.invariant-loop-rect
invariant-loop-rect l = l.todo ++ todos l.from (into_iter_items l.rect-iterator) ≡ l.initial.todo ++ todos l.from l.fn.rects
