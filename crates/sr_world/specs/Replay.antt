-- What a replay of a script keeps and writes.
use Rattle.std.specs.Prelude.{ℕ, ◌≡◌, List, [], ◌++◌, Option, None, Ok, Err}
use Rattle.std.specs.Io.KnownBytes.{Appends}
use Rattle.std.specs.List.{AllByRecursion}
use Rattle.sr_cell.specs.declared.fault.Fault.{Fault}
use Rattle.sr_cell.specs.declared.table.Table.{Table}
use Rattle.sr_model.specs.Statements.{Tables}
use Rattle.sr_lines.specs.Events.{ScriptEvent}
use Rattle.sr_lines.specs.Lines.{lines_of}
use Rattle.sr_lines.specs.Script.{Creating, LinePlace, Phase, Reads, first_outside, start_phase}
use Rattle.sr_lines.specs.Creates.{Creates}
use Rattle.sr_tables.specs.Stored.{no_rows}
use Rattle.sr_load.specs.Filling.{filled}
use Rattle.sr_load.specs.declared.fill.Load.{Load}
use Rattle.sr_script.specs.declared.line.TraceLine.{TraceLine}
use Rattle.sr_script.specs.Printable.{IsNumbered}
use Rattle.sr_script.specs.TraceText.{trace_text}
use Rattle.sr_session.specs.Scenes.{Scene, first_scene}
use Rattle.sr_runs.specs.Runs.{Runs}
use Rattle.sr_io.specs.Pieces.{WritesPrefix}
use Rattle.sr_world.specs.declared.world.Options.{Options}
use Rattle.sr_world.specs.declared.world.World.{World}
use Rattle.sr_world.specs.Worlds.{Represents}

-- the scene before the first event: the world is set up as the options say, and the tables have these rows
abbrev pub start : Options → List Table → Tables → Scene
start options schema tables = first_scene options.limits schema options.log tables options.clients

-- ---- refusals

-- the script's first line that is outside the grammar, with the place of its fault
abbrev pub outside : ℕ → List ℕ → Option LinePlace
outside clients script = first_outside clients 1 Creating (lines_of script)

-- the CREATE lines are accepted, and the file for the table of this name is the first that is refused, with this fault
abbrev pub RefusesLoad : ℕ → List ℕ → List Load → List ℕ → Fault → Type 0
RefusesLoad clients script loads table fault =
    (schema : List Table) × Creates clients [] (lines_of script) schema
    × (filled schema loads (no_rows schema) ≡ Err (record { table = table; fault = fault }))

-- ---- traces

-- A run of the script's events over tables with the rows of the files, each event with the number of its line, but for those left, and
-- the text of its lines, which can be printed so that the text tells them. No line of the script is outside the grammar.
pub record Trace (options : Options) (script : List ℕ) (loads : List Load) (left : List (ℕ × ScriptEvent)) (trace : List ℕ) (last : Scene) : Type 0 where
  pub inside : outside options.clients script ≡ None
  pub all : List (ℕ × ScriptEvent)
  pub end : Phase
  pub reads : Reads options.clients 1 start_phase (lines_of script) all end
  pub tables : Tables
  pub loaded : filled end.tables loads (no_rows end.tables) ≡ Ok tables
  pub done : List (ℕ × ScriptEvent)
  pub split : all ≡ done ++ left
  pub lines : List (ℕ × TraceLine)
  pub runs : Runs options.eager (start options end.tables tables) done lines last
  pub printable : AllByRecursion (IsNumbered end.tables) lines
  pub text : trace ≡ trace_text end.tables lines

-- the whole trace was written, and the world that is kept stands for the last scene
pub record Wrote (before after : Option (List ℕ)) (options : Options) (script : List ℕ) (loads : List Load) (kept : World) : Type 0 where
  pub trace : List ℕ
  pub last : Scene
  pub traced : Trace options script loads [] trace last
  pub stands : Represents kept last
  pub written : Appends before after trace

-- a prefix of the trace of the events so far was written
pub record WrotePart (before after : Option (List ℕ)) (options : Options) (script : List ℕ) (loads : List Load) : Type 0 where
  pub left : List (ℕ × ScriptEvent)
  pub trace : List ℕ
  pub last : Scene
  pub traced : Trace options script loads left trace last
  pub written : WritesPrefix before after trace
