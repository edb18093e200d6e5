use Rattle.std.proofs.Common.{drop, arith}
use Rattle.sr_tables.proofs.Inserts.{bad_cell-short}
use Rattle.sr_tables.proofs.faults.bad_cell.Goals as goal

pub returns-then-cells-i : goal.returns-then-cells-i
returns-then-cells-i c =
    let short = bad_cell-short c.loop-i.i (drop c.loop-i.i c.as_slice-columns.result.now) c.as_slice-cells.result.now c.loop-i.i (omega arith) in
    cc
