-- Statements of the exec file, with the lines that are written.
use Rattle.std.specs.Prelude.{◌≡◌, ℕ, Bool, true, false, List, Result}
use Rattle.std.specs.Io.KnownBytes.{Appends}
use Rattle.sr_cell.specs.declared.fault.Fault.{Fault}
use Rattle.sr_io.specs.Causes.{Rose}
use Rattle.sr_io.specs.Pieces.{WritesPrefix}
use Rattle.sr_io.specs.Told.{Writing}
use Rattle.sr_model.specs.Statements.{Tables}
use Rattle.sr_session.specs.Sessions.{Database, newest, tables_of}
use Rattle.sr_server.specs.Servers.{Executes, Gives, IsServer}
use Rattle.sr_server.specs.declared.server.Server.{Server}
use Rattle.sr_talk.specs.Rounds.{text_of}
use Rattle.sr_talk.specs.Serving.{AreExecuted, exec_line, grown}

-- One statement is carried out, or refused, and has this line.
pub record Executed (db : Database) (text line : List ℕ) (new : Server) : Type 0 where
  pub result : Result Tables Fault
  pub executes : Executes db.schema text (tables_of db (newest db)) result
  pub line_is : line ≡ exec_line db result
  pub stands : IsServer new (grown db result)

-- All are, and their lines are written.
pub record AllExecuted (db : Database) (texts : List (List ℕ)) (before after : Writing) (new : Server) : Type 0 where
  pub lines : List (List ℕ)
  pub last : Database
  pub executed : AreExecuted Gives db texts lines last
  pub written : Appends before.written after.written (text_of lines)
  pub faults_stay : after.faults ≡ before.faults
  pub stands : IsServer new last

-- A beginning of the lines of all is written.
pub record PartExecuted (db : Database) (texts : List (List ℕ)) (before after : Writing) : Type 0 where
  pub lines : List (List ℕ)
  pub last : Database
  pub executed : AreExecuted Gives db texts lines last
  pub written : WritesPrefix before.written after.written (text_of lines)

-- All are, and their lines are written; or a line is not.
abbrev pub ExecutesAs : Bool → Database → List (List ℕ) → Writing → Writing → Server → Type 0
ExecutesAs true db texts before after new = AllExecuted db texts before after new
ExecutesAs false db texts before after new = PartExecuted db texts before after × Rose before.faults after.faults

-- Out of memory no fault is counted.
abbrev pub ExecutesInPart : Database → List (List ℕ) → Writing → Writing → Type 0
ExecutesInPart db texts before after = PartExecuted db texts before after × (after.faults ≡ before.faults)
