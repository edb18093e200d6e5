use Rattle.std.proofs.Common.{rules}
use Rattle.sr_cell.specs.Cells.{cell_at, cell_le}
use Rattle.sr_tables.proofs.Ends.{of-next}
use Rattle.sr_tables.proofs.select.lowest.Goals as goal

pub loop-i-preserved : goal.loop-i-preserved
loop-i-preserved c row h =
    let v = cell_at row c.args.column in
    of-next c.args.rects.now c.loop-i.i c.index-rects-i.result row (cell_le c.in_ok-least-2.least (cell_at row c.args.column)) (search rules) c.index-rects-i.is
    (λ first. c.in_ok-least-2.ensures.one v (c.loop-i.invariant row first)) (λ next. c.in_ok-least-2.ensures.other v (c.in_ok-low_in.ensures row next)) h
