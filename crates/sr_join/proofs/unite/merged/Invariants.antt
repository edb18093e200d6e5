use Rattle.std.proofs.Common.{◌≡◌, ◌+◌, ◌≤◌, ◌++◌, vec_len, vec_capacity}
use Rattle.std.specs.VecDeque.{deque_len}
use Rattle.sr_join.specs.Joins.{united}
use Rattle.sr_join.proofs.unite.merged.Given as goal

abbrev pub invariant-loop-row : goal.invariant-loop-row
invariant-loop-row l = record {
  same : l.all.items ++ united l.key l.own.items l.more.items ≡ united l.initial.key l.initial.own.items l.initial.more.items;
  room : vec_len l.all + (deque_len l.own + deque_len l.more) ≤ vec_capacity l.all;
}

abbrev pub decreases-loop-row : goal.decreases-loop-row
decreases-loop-row l = deque_len l.own + deque_len l.more
