-- What runs of some events do to a world and write.
use Rattle.std.specs.Prelude.{ℕ, ◌≡◌, Bool, List, ◌++◌, Option}
use Rattle.std.specs.Io.KnownBytes.{Appends}
use Rattle.std.specs.List.{AllByRecursion}
use Rattle.sr_cell.specs.declared.table.Table.{Table}
use Rattle.sr_lines.specs.Events.{ScriptEvent}
use Rattle.sr_model.specs.Statements.{Tables}
use Rattle.sr_script.specs.declared.line.TraceLine.{TraceLine}
use Rattle.sr_script.specs.Printable.{HasNumbers, IsNumber, IsNumbered}
use Rattle.sr_script.specs.TraceText.{trace_text}
use Rattle.sr_session.specs.Scenes.{Scene}
use Rattle.sr_runs.specs.Runs.{Runs}
use Rattle.sr_io.specs.Pieces.{WritesPrefix}
use Rattle.sr_io.specs.Told.{Reading, Linking}
use Rattle.sr_world.specs.declared.world.Options.{Options}
use Rattle.sr_world.specs.declared.world.World.{World}
use Rattle.sr_world.specs.Worlds.{Represents}
use Rattle.sr_world.specs.Replay.{start}

-- From each scene that the old world stands for the events may give these lines and lead to one that the new world stands for.
abbrev pub DoesRun : Bool → List (ℕ × ScriptEvent) → World → World → List (ℕ × TraceLine) → Type 0
DoesRun eager events old new lines = (s : Scene) → Represents old s → (next : Scene) × Runs eager s events lines next × Represents new next

-- the number of the event and those of the line are such as a u64 holds
abbrev pub NumbersFit : List Table → ℕ × TraceLine → Type 0
NumbersFit schema numbered = IsNumber numbered.0 × HasNumbers schema numbered.1

-- the events ran, and this is the text of their lines
pub record Ran (eager : Bool) (schema : List Table) (events : List (ℕ × ScriptEvent)) (old new : World) (trace : List ℕ) : Type 0 where
  pub lines : List (ℕ × TraceLine)
  pub run : DoesRun eager events old new lines
  pub numbers : AllByRecursion (NumbersFit schema) lines
  pub text : trace ≡ trace_text schema lines

-- the text of all events was written
pub record RanWhole (eager : Bool) (schema : List Table) (events : List (ℕ × ScriptEvent)) (old new : World) (before after : Option (List ℕ)) : Type 0 where
  pub trace : List ℕ
  pub ran : Ran eager schema events old new trace
  pub written : Appends before after trace

-- a prefix of the text of the first events was written
pub record RanPart (eager : Bool) (schema : List Table) (events : List (ℕ × ScriptEvent)) (old : World) (before after : Option (List ℕ)) : Type 0 where
  pub done : List (ℕ × ScriptEvent)
  pub left : List (ℕ × ScriptEvent)
  pub split : events ≡ done ++ left
  pub mid : World
  pub trace : List ℕ
  pub ran : Ran eager schema done old mid trace
  pub written : WritesPrefix before after trace

-- the events ran from the start, their lines can be printed, and this is the text of them
pub record Traced (options : Options) (schema : List Table) (tables : Tables) (events : List (ℕ × ScriptEvent)) (trace : List ℕ) (last : Scene) : Type 0 where
  pub lines : List (ℕ × TraceLine)
  pub run : Runs options.eager (start options schema tables) events lines last
  pub printable : AllByRecursion (IsNumbered schema) lines
  pub text : trace ≡ trace_text schema lines

-- the trace of all events was written
pub record TracedWhole (options : Options) (schema : List Table) (tables : Tables) (events : List (ℕ × ScriptEvent)) (kept : World) (before after : Option (List ℕ)) : Type 0 where
  pub trace : List ℕ
  pub last : Scene
  pub traced : Traced options schema tables events trace last
  pub stands : Represents kept last
  pub written : Appends before after trace

-- a prefix of the trace of the first events was written
pub record TracedPart (options : Options) (schema : List Table) (tables : Tables) (events : List (ℕ × ScriptEvent)) (before after : Option (List ℕ)) : Type 0 where
  pub done : List (ℕ × ScriptEvent)
  pub left : List (ℕ × ScriptEvent)
  pub split : events ≡ done ++ left
  pub trace : List ℕ
  pub last : Scene
  pub traced : Traced options schema tables done trace last
  pub written : WritesPrefix before after trace

-- what writing to a sink leaves as it was
pub record Stays (K : Type 0) (reading : K → Reading) (linking : K → Linking) (held : K → List ℕ → Option (List ℕ)) (complaints : K → Option (List ℕ)) (IsSteady : K → Type 0) (old new : K) : Type 0 where
  pub stays_steady : IsSteady old → IsSteady new
  pub reading_stays : reading new ≡ reading old
  pub linking_stays : linking new ≡ linking old
  pub held_stays : held new ≡ held old
  pub complaints_stay : complaints new ≡ complaints old
