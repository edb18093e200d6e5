use Rattle.std.proofs.Common.{◌≡◌, ◌+◌, ◌≤◌, ◌++◌, vec_len, vec_capacity}
use Rattle.std.specs.Prelude.{filter, not}
use Rattle.std.specs.VecDeque.{deque_len}
use Rattle.sr_region.specs.Regions.{is_in}
use Rattle.sr_region.proofs.halves.cut_rows.Given as goal

abbrev pub invariant-loop-row : goal.invariant-loop-row
invariant-loop-row l = record {
  same_inside : l.inside.items ++ filter (is_in l.attrs l.cut) l.rest.items ≡ filter (is_in l.attrs l.cut) l.fn.rows.items;
  same_outside : l.outside.items ++ filter (λ row. not (is_in l.attrs l.cut row)) l.rest.items ≡ filter (λ row. not (is_in l.attrs l.cut row)) l.fn.rows.items;
  room_inside : vec_len l.inside + deque_len l.rest ≤ vec_capacity l.inside;
  room_outside : vec_len l.outside + deque_len l.rest ≤ vec_capacity l.outside;
}

abbrev pub decreases-loop-row : goal.decreases-loop-row
decreases-loop-row l = deque_len l.rest
