use Rattle.std.proofs.Common.{◌≡◌, ◌<◌, length, arith}
use Rattle.std.specs.Prelude.{map}
use Rattle.std.proofs.lemmas.Bool.Decides.{nat_tests}
use Rattle.std.proofs.lemmas.Result.{IfOk-weaker}
use Rattle.sr_model.specs.Conditions.{Tests}
use Rattle.sr_query.specs.Meant.{test_meant}
use Rattle.sr_condition.specs.Said.{rect_with, AreRects}
use Rattle.sr_condition.proofs.Constrained.{test-rects-of}
use Rattle.sr_condition.proofs.rects.test_rects.Goals as goal

pub returns : goal.returns
returns c =
    let l : c.args.column < length c.args.table.now.columns = let s = c.requires.suits in grind (arith, nat_tests, s) in
    IfOk-weaker c.rects_with.result (λ rects. rects ≡ map (rect_with c.as_slice-columns.result.now c.args.column) c.in_ok-spans.spans)
    (AreRects c.args.table.now.columns c.args.plain (Tests c.args.column (test_meant c.args.test.now)))
    (λ rects is. test-rects-of c.args.table.now.columns c.as_slice-columns.result.now c.args.column c.index-columns-column.result c.args.plain (test_meant c.args.test.now) c.in_ok-spans.spans rects
    c.as_slice-columns.ensures l c.index-columns-column.is c.in_ok-spans.ensures is)
    c.rects_with.ensures
