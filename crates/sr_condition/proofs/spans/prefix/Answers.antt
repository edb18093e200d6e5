use Rattle.std.proofs.Common.{◌≡◌, [], ◌∷◌}
use Rattle.std.specs.Prelude.{not, if◌then◌else◌}
use Rattle.std.proofs.lemmas.Result.{IfOk-weaker}
use Rattle.sr_model.specs.Conditions.{Prefix}
use Rattle.sr_model.specs.Ends.{places_of}
use Rattle.sr_condition.specs.Ranges.{says_test, range_width, all_values, AreSpans}
use Rattle.sr_condition.proofs.Tested.{prefix-of-number}
use Rattle.sr_condition.proofs.spans.prefix.Goals as goal

pub returns-in-Num : goal.returns-in-Num
returns-in-Num c =
    IfOk-weaker c.all_or_none.result
    (λ spans. spans ≡ (if not c.args.plain then all_values c.args.column.now ∷ [] else []))
    (AreSpans c.args.column.now (says_test c.args.plain (Prefix c.args.start.now)) (range_width c.args.plain) (places_of (Prefix c.args.start.now)))
    (λ spans is. prefix-of-number c.args.column.now c.args.start.now c.args.plain spans c.requires.good c.in-Num.is is)
    c.all_or_none.ensures
