use Rattle.std.proofs.Common.{sym, ◌∙◌, ap, subst, refl}
use Rattle.std.specs.Prelude.{Option}
use Rattle.std.specs.Option.{option_copied}
use Rattle.sr_dial.specs.Jobs.{GivesNext}
use Rattle.sr_dial.specs.declared.parts.Answer.{Answer}
use Rattle.sr_report.specs.Steps.{Follows}
use Rattle.sr_report.proofs.Going.{gives-told}
use Rattle.sr_report.proofs.report.ReportPlans.next.Goals as goal

pub returns-clause-gives : goal.returns-clause-gives
returns-clause-gives c schema ahead follows =
    let report = c.args.self.now in
    let answered = ap option_copied c.in-Some-answer.is in
    let some = sym c.take.ensures.value ∙ c.in-Some.is in
    subst (λ (z : Option Answer). GivesNext Follows schema c.in_ok-told.field-0 (ahead z) (record { id = report.id; steps = report.steps; asked = c.take.new.self })) (sym answered)
    (gives-told schema report (record { id = report.id; steps = report.steps; asked = c.take.new.self }) c.in-Some.asked ahead c.in-Some-answer.answer.now c.in_ok-told.field-0 follows refl refl c.take.ensures.after some c.in_ok-told.ensures)
