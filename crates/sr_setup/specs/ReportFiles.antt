-- What a schema file and the script of a report say.
use Rattle.std.specs.Prelude.{◌≡◌, ℕ, ◌+◌, ◌≤◌, ◌&&◌, Bool, true, List, [], ◌∷◌, length, codes, Option, Some, None, Result, Ok, IsTrue, if◌then◌else◌}
use Rattle.std.specs.List.{AllZip}
use Rattle.std.specs.Str.{is_utf8, bytes_eq}
use Rattle.sr_cell.specs.declared.fault.Fault.{Fault}
use Rattle.sr_cell.specs.declared.table.Table.{Table}
use Rattle.sr_cell.specs.Clients.{most_clients}
use Rattle.sr_lines.specs.Creates.{Creates}
use Rattle.sr_lines.specs.Lines.{lines_of}
use Rattle.sr_lines.specs.Script.{Words, QuerySql, Line, EventLine, line_of, part_of, behind, client_text, placed, FirstRefused, LinePlace}
use Rattle.sr_reader.specs.Meaning.{IsSaid}
use Rattle.sr_setup.specs.ClientFiles.{is_own, read_fault, script_outside, Refuses}
use Rattle.sr_setup.specs.declared.report_script.ReportLine.{ReportLine}
use Rattle.sr_setup.specs.declared.report_script.ReportLine.TheVariants as read

-- ---- a line of the script

-- its word is agg
abbrev pub is_aggregate : List ℕ → Bool
is_aggregate line = is_utf8 line && bytes_eq (part_of line) (codes "agg")

-- Behind the word agg stand a client and a text, as in a query. Another line is read as in every script.
abbrev pub report_line : List ℕ → Result Line ℕ
report_line line = if is_aggregate line then placed line (client_text most_clients QuerySql (behind line)) else line_of most_clients line

-- The script of a report has the lines of a client's script, and aggregates of that client. A line has its faults, and their places, as
-- one of a client's script has them, an aggregate as a query.
abbrev pub report_fault : ℕ → List ℕ → Option ℕ
report_fault id line = read_fault id line (report_line line)

-- ---- what it asks for

-- what the words of an event say; or an aggregate of that text
pub data Saying : Type 0 where
  Event : (words : Words) → Saying
  Aggregate : (sql : List ℕ) → Saying

abbrev pub saying_by : Bool → Words → Saying
saying_by true (QuerySql n sql) = Aggregate sql
saying_by aggregate words = Event words

abbrev pub saying_in : Bool → Result Line ℕ → Option Saying
saying_in aggregate (Ok (EventLine words)) = Some (saying_by aggregate words)
saying_in aggregate other = None

-- what a line asks for: nothing, where it is blank or a comment
abbrev pub saying_of : List ℕ → Option Saying
saying_of line = saying_in (is_aggregate line) (report_line line)

abbrev pub in_front : ℕ → Option Saying → List (ℕ × Saying) → List (ℕ × Saying)
in_front number None later = later
in_front number (Some saying) later = (number, saying) ∷ later

-- what the lines ask for, each with its number, where the first has that number
abbrev pub sayings : ℕ → List (List ℕ) → List (ℕ × Saying)
sayings number [] = []
sayings number (line ∷ lines) = in_front number (saying_of line) (sayings (number + 1) lines)

-- ---- the lines as they are read

-- The line asks for this: an event that the words say over the tables, which is this client's; or an aggregate of this text.
abbrev pub IsSaying : ℕ → List Table → ReportLine → ℕ → Saying → Type 0
IsSaying id tables (read.Event line) number (Event words) = (line.number ≡ number) × IsSaid tables words line.event × IsTrue (is_own id line.event)
IsSaying id tables (read.Aggregate n sql) number (Aggregate text) = (n ≡ number) × (sql ≡ text)
IsSaying id tables line number saying = ⊥

abbrev pub IsReportLine : ℕ → List Table → ReportLine → ℕ × Saying → Type 0
IsReportLine id tables line numbered = IsSaying id tables line numbered.0 numbered.1

-- The lines of the script ask for just this over the tables, in order, each with the number of its line.
abbrev pub AreReportLines : ℕ → List ℕ → List Table → List ReportLine → Type 0
AreReportLines id script tables lines = AllZip (IsReportLine id tables) lines (sayings 1 (lines_of script))

-- ---- both files

-- the first line that is outside the grammar of its file; those of the schema file come first
abbrev pub report_outside : ℕ → List ℕ → List ℕ → Option LinePlace
report_outside id schema script = script_outside (report_fault id) schema script

-- no line is outside the grammar, and line n is the first CREATE line that is refused, with this fault
abbrev pub ReportRefuses : ℕ → List ℕ → List ℕ → ℕ → Fault → Type 0
ReportRefuses id schema script n fault = Refuses (report_fault id) schema script n fault

-- no line is outside the grammar, the CREATE lines make the tables, and these are the lines of the script
pub record IsReported (id : ℕ) (schema script : List ℕ) (tables : List Table) (lines : List ReportLine) : Type 0 where
  pub inside : report_outside id schema script ≡ None
  pub created : Creates most_clients [] (lines_of schema) tables
  pub accepts : (n : ℕ) (fault : Fault) → ¬ FirstRefused most_clients 1 [] (lines_of schema) n fault
  pub are : AreReportLines id script tables lines
  pub few : length lines ≤ length script
