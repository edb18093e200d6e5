use Rattle.std.proofs.Common.{sym, subst}
use Rattle.std.specs.List.{AllZip}
use Rattle.sr_lines.specs.Lines.{lines_of}
use Rattle.sr_setup.specs.Lined.{IsReportText}
use Rattle.sr_setup.proofs.ReportWalks.{few_read}
use Rattle.sr_setup.proofs.report_setup.set_up_report.Goals as goal

pub returns-in-Ok-report_lines-clause-asked : goal.returns-in-Ok-report_lines-clause-asked
returns-in-Ok-report_lines-clause-asked c =
    let texts = subst (AllZip IsReportText (lines_of c.args.script.now)) (sym c.as_slice.ensures) c.in-Ok.ensures.lines in
    let are = c.in-Ok-report_lines.ensures.are c.args.script.now texts c.in-Ok.ensures.own in
    record {
      inside = c.in-Ok.ensures.inside;
      created = c.in-Ok.ensures.created;
      accepts = c.in-Ok.ensures.accepts;
      are = are;
      few = few_read c.args.id c.args.script.now c.in-Ok.prepared.schema c.in-Ok-report_lines.lines are;
    }
