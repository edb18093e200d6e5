use Rattle.std.proofs.Common.{◌≡◌, ◌++◌, take, drop}
use Rattle.sr_semi.specs.Keys.{with_value}
use Rattle.sr_semi.proofs.keys.add_cell.Given as goal

abbrev pub invariant-loop-i : goal.invariant-loop-i
invariant-loop-i l = record {
  value : with_value l.fn.cells l.cell ≡ take l.i l.fn.cells ++ with_value (drop l.i l.fn.cells) l.cell;
  same : l.cells ≡ l.fn.cells;
}
