use Rattle.std.proofs.Common.{◌≡◌, ℕ, ◌+◌, List, drop}
use Rattle.std.specs.Prelude.{None}
use Rattle.std.specs.List.{AllZip}
use Rattle.sr_lines.specs.Lines.{lines_of}
use Rattle.sr_setup.specs.Files.{first_fault}
use Rattle.sr_setup.specs.Lined.{IsReportText}
use Rattle.sr_setup.specs.ReportFiles.{report_fault}
use Rattle.sr_setup.proofs.ReportWalks.{Walked}
use Rattle.sr_setup.proofs.report_script.report_lines.Given as goal

abbrev pub invariant-loop-i : goal.invariant-loop-i
invariant-loop-i l =
    (script : List ℕ) → AllZip IsReportText (lines_of script) l.texts → first_fault (report_fault l.fn.id) 1 (lines_of script) ≡ None → Walked l.fn.id script l.schema (l.i + 1) (drop l.i (lines_of script)) l.lines
