use Rattle.std.proofs.Common.{◌+◌, ◌==◌, ap, ◌∙◌}
use Rattle.sr_grammar.specs.Printed.{column}
use Rattle.sr_print.specs.Writes.{Page, written}
use Rattle.sr_print.proofs.WritingLists.{column_more}
use Rattle.sr_print.proofs.definitions.columns.Goals as goal

pub loop-index-preserved : goal.loop-index-preserved
loop-index-preserved c =
    column_more c.args.key c.loop-index.index _ c.index-others-index.result c.loop-index.printer _ c.loop-index-test.true c.index-others-index.is
    (c.in_ok-column-2.ensures ∙ ap (λ (p : Page). written p (column (c.args.key == c.loop-index.index + 1) c.index-others-index.result)) c.in_ok-mark.ensures)
    ∙ c.loop-index.invariant
