use Rattle.std.proofs.Common.{◌≡◌, ℕ, List, length}
use Rattle.std.specs.List.{AllZip}
use Rattle.sr_setup.specs.ReportFiles.{Saying, IsReportLine}
use Rattle.sr_report.proofs.Entries.{AreMade}
use Rattle.sr_report.proofs.report.Report.new.Given as goal

abbrev pub invariant-loop-line : goal.invariant-loop-line
invariant-loop-line l = record {
  made : (sayings : List (ℕ × Saying)) → AllZip (IsReportLine l.fn.id l.schema) l.yielded sayings → AreMade l.schema l.fn.id sayings l.steps;
  few : length l.steps ≡ length l.yielded;
}
