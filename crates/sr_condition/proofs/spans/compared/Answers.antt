use Rattle.std.proofs.lemmas.Result.{IfOk-weaker}
use Rattle.sr_query.specs.Binding.{compared}
use Rattle.sr_model.specs.Ends.{places_of}
use Rattle.sr_model.specs.Width.{test_width}
use Rattle.sr_condition.specs.Ranges.{says_test, range_width, ranged, AreSpans}
use Rattle.sr_condition.proofs.Tested.{compared-spans}
use Rattle.sr_condition.proofs.spans.compared.Goals as goal

pub returns : goal.returns
returns c =
    IfOk-weaker c.range_spans.result
    (AreSpans c.args.column.now (says_test c.is_one_range.result (ranged c.said-op.result c.args.value.now)) (range_width c.is_one_range.result) (places_of (ranged c.said-op.result c.args.value.now)))
    (AreSpans c.args.column.now (says_test c.args.plain (compared c.args.op c.args.value.now)) (test_width c.args.plain (compared c.args.op c.args.value.now)) (places_of (compared c.args.op c.args.value.now)))
    (λ spans are. compared-spans c.args.column.now c.args.plain c.args.op c.args.value.now spans c.said-op.result c.is_one_range.result c.said-op.ensures c.is_one_range.ensures are)
    (c.range_spans.ensures (ranged c.said-op.result c.args.value.now) c.in_ok-bounds.ensures)
