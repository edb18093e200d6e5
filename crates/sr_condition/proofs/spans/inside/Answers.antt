use Rattle.std.proofs.Common.{◌+◌, length}
use Rattle.std.proofs.lemmas.Result.{IfOk-weaker}
use Rattle.sr_model.specs.Conditions.{passes, OneOf}
use Rattle.sr_model.specs.Ends.{test_ends, places_of}
use Rattle.sr_condition.specs.Ranges.{is_left, AreSpans, AreApart}
use Rattle.sr_condition.proofs.Left.{inside-spans, between-lack}
use Rattle.sr_condition.proofs.spans.inside.Goals as goal

pub left_by-requires-clause-values : goal.left_by-requires-clause-values
left_by-requires-clause-values c = between-lack c.args.column.now c.args.values.now (length c.args.values.now + 1) c.in_ok-between.between c.in_ok-between.ensures

pub returns : goal.returns
returns c =
    IfOk-weaker c.left_by.result
    (AreApart c.args.column.now (is_left c.in_ok-between.between) (length c.in_ok-between.between + 1) (places_of (OneOf c.args.values.now)))
    (AreSpans c.args.column.now (passes (OneOf c.args.values.now)) (length c.args.values.now) (places_of (OneOf c.args.values.now)))
    (λ spans left. inside-spans c.args.column.now c.args.values.now (length c.args.values.now + 1) c.in_ok-between.between (length c.in_ok-between.between + 1) spans c.requires.good c.in_ok-between.ensures left)
    (c.left_by.ensures (test_ends (OneOf c.args.values.now)) c.in_ok-between.ensures.ends)
