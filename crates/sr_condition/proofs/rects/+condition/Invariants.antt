use Rattle.std.proofs.Common.{◌≤◌, drop, length}
use Rattle.sr_query.specs.Meant.{members}
use Rattle.sr_condition.specs.Said.{all_of, any_of, AreRects}
use Rattle.sr_condition.proofs.rects.+condition.Given as goal

abbrev pub invariant-meet_all-loop-i : goal.invariant-meet_all-loop-i
invariant-meet_all-loop-i l =
    record { inside : l.i ≤ length l.all; are : AreRects l.table.columns l.plain (all_of l.plain (members (drop l.i l.all))) l.both }

abbrev pub decreases-meet_all-loop-i : goal.decreases-meet_all-loop-i
decreases-meet_all-loop-i l = l.i

abbrev pub invariant-join_all-loop-i : goal.invariant-join_all-loop-i
invariant-join_all-loop-i l =
    record { inside : l.i ≤ length l.all; are : AreRects l.table.columns l.plain (any_of l.plain (members (drop l.i l.all))) l.any }

abbrev pub decreases-join_all-loop-i : goal.decreases-join_all-loop-i
decreases-join_all-loop-i l = l.i
