use Rattle.std.proofs.Common.{◌≡◌, true, length}
use Rattle.std.specs.List.{list_all, sum_by}
use Rattle.sr_union.specs.Search.{is_covered, is_done, steps_of}
use Rattle.sr_union.proofs.Searching.{is_wide_todo}
use Rattle.sr_union.proofs.search.covers.Given as goal

abbrev pub invariant-loop-next : goal.invariant-loop-next
invariant-loop-next l = record {
  same : list_all (is_done l.columns l.others) l.todo ≡ is_covered l.columns l.others l.rect;
  wide : list_all (is_wide_todo (length l.columns)) l.todo ≡ true;
}

abbrev pub decreases-loop-next : goal.decreases-loop-next
decreases-loop-next l = sum_by (steps_of l.columns l.others) l.todo
