use Rattle.std.proofs.Common.{◌≡◌, ◌∙◌, refl}
use Rattle.std.proofs.lemmas.Result.{IfOk-weaker}
use Rattle.sr_model.specs.Ends.{places_of}
use Rattle.sr_condition.specs.Ranges.{says_test, range_width, without, AreSpans}
use Rattle.sr_condition.proofs.Parts.{part-fits}
use Rattle.sr_condition.proofs.Tested.{range-inside, range-outside}
use Rattle.sr_condition.proofs.spans.range_spans.Goals as goal

pub without-requires-clause-fits : goal.without-requires-clause-fits
without-requires-clause-fits c = rw c.part_of-part.ensures (part-fits c.args.column.now c.args.bounds c.requires.range)

pub returns-in_ok-push_some : goal.returns-in_ok-push_some
returns-in_ok-push_some c =
    λ t r. range-inside c.args.column.now t c.args.bounds c.args.plain c.push_some.new.spans c.if-plain.true r (c.in_ok-push_some.ensures ∙ rw (c.new-spans.ensures, c.part_of-part.ensures) refl)

pub returns-in_ok-whole : goal.returns-in_ok-whole
returns-in_ok-whole c =
    λ t r. IfOk-weaker c.without.result
    (λ left. left ≡ without c.args.column.now c.part_of-part.result c.in_ok-whole.field-0)
    (AreSpans c.args.column.now (says_test c.args.plain t) (range_width c.args.plain) (places_of t))
    (λ left is. range-outside c.args.column.now t c.args.bounds c.args.plain left c.if-plain.false c.requires.good r (is ∙ rw (c.in_ok-whole.ensures, c.part_of-part.ensures) refl))
    c.without.ensures
