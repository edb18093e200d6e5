use Rattle.std.proofs.Common.{◌≡◌, [], ◌∷◌}
use Rattle.std.specs.Prelude.{if◌then◌else◌}
use Rattle.std.proofs.lemmas.Result.{IfOk-weaker}
use Rattle.sr_box.specs.declared.span.Span.TheVariants.{Null}
use Rattle.sr_model.specs.Conditions.{IsNull}
use Rattle.sr_model.specs.Ends.{places_of}
use Rattle.sr_model.specs.Width.{test_width}
use Rattle.sr_condition.specs.Ranges.{says_test, all_values, AreSpans}
use Rattle.sr_condition.proofs.Tested.{null-side, value-side}
use Rattle.sr_condition.proofs.spans.is_null.Goals as goal

pub returns-then-plain : goal.returns-then-plain
returns-then-plain c =
    IfOk-weaker c.null.result
    (λ spans. spans ≡ (if c.args.column.now.nullable then Null ∷ [] else []))
    (AreSpans c.args.column.now (says_test c.args.plain IsNull) (test_width c.args.plain IsNull) (places_of IsNull))
    (λ spans is. null-side c.args.column.now c.args.plain spans c.if-plain.true is)
    c.null.ensures

pub returns-else-plain : goal.returns-else-plain
returns-else-plain c =
    IfOk-weaker c.whole.result
    (λ spans. spans ≡ all_values c.args.column.now ∷ [])
    (AreSpans c.args.column.now (says_test c.args.plain IsNull) (test_width c.args.plain IsNull) (places_of IsNull))
    (λ spans is. value-side c.args.column.now c.args.plain spans c.requires.good c.if-plain.false is)
    c.whole.ensures
