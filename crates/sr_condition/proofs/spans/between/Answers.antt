use Rattle.std.proofs.Common.{◌≡◌, ◌∙◌, sym, [], ◌∷◌}
use Rattle.std.specs.Prelude.{not, if◌then◌else◌}
use Rattle.std.proofs.lemmas.Result.{IfOk-weaker}
use Rattle.sr_model.specs.Conditions.{Between}
use Rattle.sr_model.specs.Ends.{places_of}
use Rattle.sr_condition.specs.Ranges.{says_test, range_width, all_values, AreSpans}
use Rattle.sr_condition.proofs.Tested.{crossed-spans}
use Rattle.sr_condition.proofs.spans.between.Goals as goal

pub returns-else-is_at_most : goal.returns-else-is_at_most
returns-else-is_at_most c =
    IfOk-weaker c.all_or_none.result
    (λ spans. spans ≡ (if not c.args.plain then all_values c.args.column.now ∷ [] else []))
    (AreSpans c.args.column.now (says_test c.args.plain (Between c.args.low.now c.args.high.now)) (range_width c.args.plain) (places_of (Between c.args.low.now c.args.high.now)))
    (λ spans is. crossed-spans c.args.column.now c.args.low.now c.args.high.now c.args.plain spans c.requires.good (sym c.is_at_most.ensures ∙ c.if-is_at_most.false) is)
    c.all_or_none.ensures
