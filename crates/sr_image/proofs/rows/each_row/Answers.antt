use Rattle.std.proofs.Common.{◌≡◌, List, subst}
use Rattle.std.specs.Prelude.{Err}
use Rattle.sr_cell.specs.Cells.{Row}
use Rattle.sr_bytes.specs.Reading.{Got, a_row, passing}
use Rattle.sr_image.specs.Reading.{may_row}
use Rattle.sr_image.specs.Found.{ReadsOr}
use Rattle.sr_image.proofs.Each.{one-more, stops}
use Rattle.sr_image.proofs.rows.each_row.Goals as goal

pub returns-in-Err : goal.returns-in-Err
returns-in-Err c =
    stops c.in-Err.no (λ (before : List Row). passing (may_row c.args.part.now.table.now c.args.part.now.attrs c.args.part.now.rects.now before) a_row) c.args.count c.loop.counter c.loop.rows c.loop.bytes c.one_row.new.bytes _ c.loop-test.true
    (subst (λ (before : List Row). ReadsOr {X = Row} (Err c.in-Err.no) c.one_row.new.bytes (passing (may_row c.args.part.now.table.now c.args.part.now.attrs c.args.part.now.rects.now before) a_row c.loop.bytes)) c.as_slice.ensures c.in-Err.ensures)
    c.loop.invariant

pub loop-preserved : goal.loop-preserved
loop-preserved c =
    one-more (λ (before : List Row). passing (may_row c.args.part.now.table.now c.args.part.now.attrs c.args.part.now.rects.now before) a_row) c.args.count c.loop.counter c.loop.rows c.loop.bytes c.in-Ok.row c.one_row.new.bytes _ c.loop-test.true
    (subst (λ (before : List Row). passing (may_row c.args.part.now.table.now c.args.part.now.attrs c.args.part.now.rects.now before) a_row c.loop.bytes ≡ Got c.in-Ok.row c.one_row.new.bytes) c.as_slice.ensures c.in-Ok.ensures)
    c.loop.invariant _ c.in_ok-push-in-Ok.ensures.pushed
