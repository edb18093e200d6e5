use Rattle.std.proofs.Common.{◌≡◌, ◌≤◌, length, drop}
use Rattle.sr_semi.specs.Keys.{values_at, values_behind}
use Rattle.sr_semi.proofs.keys.Keys.of.Given as goal

abbrev pub invariant-loop-row : goal.invariant-loop-row
invariant-loop-row l = record {
  values : values_at l.place l.rows ≡ values_behind l.place l.cells (drop l.row-index l.rows);
  few : length l.cells ≤ l.most;
}
