-- The trace of a replay tells its lines.
use Rattle.std.specs.Prelude.{ℕ, ◌≡◌, List}
use Rattle.std.specs.List.{AllByRecursion}
use Rattle.sr_lines.specs.Events.{ScriptEvent}
use Rattle.sr_load.specs.declared.fill.Load.{Load}
use Rattle.sr_script.specs.declared.line.TraceLine.{TraceLine}
use Rattle.sr_script.specs.Printable.{IsNamed, IsNumbered}
use Rattle.sr_script.specs.TraceText.{trace_text}
use Rattle.sr_session.specs.Scenes.{Scene}
use Rattle.sr_world.specs.Replay.{Trace}
use Rattle.sr_world.specs.declared.world.Options.{Options}

-- Its tables have names, no two the same, and so have the columns of each, whose domains have ends that an i64 holds.
abbrev pub ReplaysNameTables : Type 0
ReplaysNameTables =
    (options : Options) (script : List ℕ) (loads : List Load) (left : List (ℕ × ScriptEvent)) (trace : List ℕ) (last : Scene)
    → (traced : Trace options script loads left trace last) → IsNamed traced.end.tables

-- Each line of a replay can be printed so that its text tells it.
abbrev pub ReplayLinesCanBePrinted : Type 0
ReplayLinesCanBePrinted =
    (options : Options) (script : List ℕ) (loads : List Load) (left : List (ℕ × ScriptEvent)) (trace : List ℕ) (last : Scene)
    → (traced : Trace options script loads left trace last) → AllByRecursion (IsNumbered traced.end.tables) traced.lines

-- So its trace is the text of just one list of such lines.
abbrev pub TracesTellLines : Type 0
TracesTellLines =
    (options : Options) (script : List ℕ) (loads : List Load) (left : List (ℕ × ScriptEvent)) (trace : List ℕ) (last : Scene)
    → (traced : Trace options script loads left trace last) → (lines : List (ℕ × TraceLine))
    → AllByRecursion (IsNumbered traced.end.tables) lines → trace ≡ trace_text traced.end.tables lines → lines ≡ traced.lines
