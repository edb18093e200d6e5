-- The lines of a script that was read.
use Rattle.std.specs.Prelude.{◌≡◌, ℕ, ◌||◌, Bool, true, false, List, [], Option, Some, None, Ok}
use Rattle.std.specs.List.{AllZip}
use Rattle.sr_cell.specs.declared.table.Table.{Table}
use Rattle.sr_lines.specs.Lines.{lines_of}
use Rattle.sr_lines.specs.Script.{Line as TheLine, Silent, CreateLine, EventLine, line_of, Stage, Creating, Running, LinePlace, outside_from, first_outside}
use Rattle.sr_lines.specs.Creates.{Creates}
use Rattle.sr_reader.specs.declared.line.Line.{Line}
use Rattle.sr_reader.specs.declared.script.LinePlace as code
use Rattle.sr_reader.specs.LineSeen.{line_seen}

-- the line is inside the grammar, and is this one
abbrev pub IsLine : ℕ → List ℕ → Line → Type 0
IsLine clients text line = line_of clients text ≡ Ok (line_seen line)

-- the lines are those of the script, in its order
abbrev pub AreLines : ℕ → List ℕ → List Line → Type 0
AreLines clients bytes lines = AllZip (IsLine clients) (lines_of bytes) lines

abbrev pub place_seen : code.LinePlace → LinePlace
place_seen fault = record { line = fault.line; place = fault.place }

-- the lines are those of a script that is inside the grammar, whose CREATE lines make this schema
pub record AreOf (clients : ℕ) (bytes : List ℕ) (schema : List Table) (read : List Line) : Type 0 where
  pub lines : AreLines clients bytes read
  pub inside : first_outside clients 1 Creating (lines_of bytes) ≡ None
  pub created : Creates clients [] (lines_of bytes) schema

-- ---- inside the crate

-- where a script stands, by whether events have begun
abbrev pub stage_by : Bool → Stage
stage_by false = Creating
stage_by true = Running

abbrev pub is_event : TheLine → Bool
is_event Silent = false
is_event (CreateLine sql) = false
is_event (EventLine words) = true

abbrev pub is_create : TheLine → Bool
is_create Silent = false
is_create (CreateLine sql) = true
is_create (EventLine words) = false

-- a line of this number is none that is outside the grammar, where the script stands
abbrev pub GoesOn : ℕ → List ℕ → Bool → Line → Type 0
GoesOn clients text running line =
    (i : ℕ) (later : Stage → Option LinePlace)
    → outside_from i later (stage_by running) (line_of clients text) ≡ later (stage_by (running || is_event (line_seen line)))

-- a line is outside the grammar, where the script stands
abbrev pub StopsAt : ℕ → List ℕ → Bool → ℕ → Type 0
StopsAt clients text running place =
    (i : ℕ) (later : Stage → Option LinePlace) → outside_from i later (stage_by running) (line_of clients text) ≡ Some (record { line = i; place = place })
