use Rattle.std.proofs.Common.{List, ℕ, sym, subst}
use Rattle.sr_setup.specs.ReportFiles.{Aggregate, IsReportLine}
use Rattle.sr_setup.specs.declared.report_script.ReportLine.{ReportLine}
use Rattle.sr_setup.specs.declared.report_script.ReportLine.TheVariants as line
use Rattle.sr_report.specs.Plans.{Entry, ComesTo}
use Rattle.sr_report.specs.Steps.{IsStepOf}
use Rattle.sr_report.specs.declared.report.Step.{Step}
use Rattle.sr_report.proofs.Entries.{Made, if-ok, made_of_event, made_of_aggregate}
use Rattle.sr_report.proofs.report.step_of.Goals as goal

pub returns-in-Event : goal.returns-in-Event
returns-in-Event c saying is = made_of_event c.args.id c.args.schema.now c.in-Event.line saying (subst (λ (z : ReportLine). IsReportLine c.args.id c.args.schema.now z saying) c.in-Event.is is)

pub returns-in-Aggregate : goal.returns-in-Aggregate
returns-in-Aggregate c saying is =
    let id = c.args.id in
    let tables = c.args.schema.now in
    let number = c.in-Aggregate.number in
    let sql = c.as_str.result.now in
    let here = subst (λ (z : ReportLine). IsReportLine id tables z saying) c.in-Aggregate.is is in
    let same = subst (λ (z : List ℕ). IsReportLine id tables (line.Aggregate number z) saying) (sym c.as_str.ensures) here in
    if-ok (λ (s : Step). (entry : Entry) × ComesTo tables (Aggregate sql) entry × IsStepOf tables id s number entry) (Made tables id saying) c.aggregate_step.result (λ s of. made_of_aggregate id tables number sql saying s same of) c.aggregate_step.ensures
