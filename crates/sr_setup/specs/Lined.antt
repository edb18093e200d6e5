-- The lines of a report's script, as they are read one by one.
use Rattle.std.specs.Prelude.{◌≡◌, ℕ, List, Option, Some, None}
use Rattle.sr_cell.specs.declared.table.Table.{Table}
use Rattle.sr_reader.specs.LineSeen.{words_seen}
use Rattle.sr_setup.specs.declared.report_line.ReportText.{ReportText}
use Rattle.sr_setup.specs.declared.report_line.ReportText.TheVariants as text
use Rattle.sr_setup.specs.declared.report_script.ReportLine.{ReportLine}
use Rattle.sr_setup.specs.ClientFiles.{doer_of}
use Rattle.sr_setup.specs.ReportFiles.{Saying, Event, Aggregate, saying_of, IsSaying}

-- what the line asks for
abbrev pub text_seen : ReportText → Option Saying
text_seen text.Silent = None
text_seen (text.Event words) = Some (Event (words_seen words))
text_seen (text.Aggregate sql) = Some (Aggregate sql.now)

abbrev pub IsReportText : List ℕ → ReportText → Type 0
IsReportText line text = saying_of line ≡ text_seen text

-- the line that is read for what is asked for, if anything is
abbrev pub IsReadFor : ℕ → List Table → ℕ → Option Saying → Option ReportLine → Type 0
IsReadFor id tables number None None = Unit {0}
IsReadFor id tables number (Some saying) (Some line) = IsSaying id tables line number saying
IsReadFor id tables number saying line = ⊥

-- the words of an event are those of this client
abbrev pub IsOwnText : ℕ → ReportText → Type 0
IsOwnText id (text.Event words) = doer_of (words_seen words) ≡ Some id
IsOwnText id other = Unit {0}
