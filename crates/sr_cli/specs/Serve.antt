-- What `serve` does, and why it ends with each status.
use Rattle.std.specs.Prelude.{◌≡◌, ℕ, ◌⊎◌, List, [], ◌∷◌, ◌++◌, Option, Some, None, Result, Ok, Err, IsOk, option_to_list}
use Rattle.std.specs.List.{AllZip}
use Rattle.sr_cell.specs.declared.fault.Fault.{Fault}
use Rattle.sr_cell.specs.declared.list.No.{No}
use Rattle.sr_cell.specs.declared.list.No.TheVariants.{Refused as NoBut, NoMemory as Wanting}
use Rattle.sr_cell.specs.declared.list.NoMemory.{NoMemory}
use Rattle.sr_lines.specs.Script.{LinePlace}
use Rattle.sr_load.specs.declared.fill.Load.{Load}
use Rattle.sr_io.specs.Causes.{Rose}
use Rattle.sr_io.specs.Told.{Reading, Writing, Linking, complained}
use Rattle.sr_serve.specs.Runs.{Ran, RanInPart}
use Rattle.sr_server.specs.Servers.{first_database}
use Rattle.sr_setup.specs.Files.{outside, RefusesCreate, RefusesLoad, SetsUp}
use Rattle.sr_setup.specs.declared.setup.SetupFault.{SetupFault}
use Rattle.sr_setup.specs.declared.setup.SetupFault.TheVariants as setup
use Rattle.sr_tables.specs.Stored.{Stored}
use Rattle.sr_talk.specs.Rounds.{HasPeers}
use Rattle.sr_talk.specs.declared.rounds.Ending.{Ending}
use Rattle.sr_talk.specs.declared.rounds.Ending.TheVariants.{Whole, Faulty, Unwritten}
use Rattle.sr_words.specs.declared.command.ServeWords.{ServeWords}
use Rattle.sr_cli.specs.Files.{IsWhatIsHeld, IsLoad, SomeTooLong, IsHeldLoad, IsLong, SomeLong, names_of}
use Rattle.sr_cli.specs.Client.{Untouched}
use Rattle.sr_cli.specs.Errors.{line_text, setup_text, load_text}
use Rattle.sr_cli.specs.declared.report.Refusal.{Refusal}
use Rattle.sr_cli.specs.declared.report.Refusal.TheVariants as refusal

-- ---- the files

-- the name of the exec file, if it is named
abbrev pub exec_files : Option (List ℕ) → List (List ℕ)
exec_files exec = option_to_list exec

-- the names of all files, in the order in which they are read
abbrev pub files_of : ServeWords → List (List ℕ)
files_of words = words.schema ∷ (exec_files words.exec ++ names_of words.loads)

-- what was read of the exec file: nothing, where none is named
abbrev pub IsExec : (List ℕ → Option (List ℕ)) → Option (List ℕ) → List ℕ → Type 0
IsExec held None read = read ≡ []
IsExec held (Some name) read = IsWhatIsHeld (held name) read

-- what was read under the names: a schema file, an exec file, and the files for the tables
pub record AreFiles (held : List ℕ → Option (List ℕ)) (words : ServeWords) (schema exec : List ℕ) (loads : List Load) : Type 0 where
  pub schema_read : IsWhatIsHeld (held words.schema) schema
  pub exec_read : IsExec held words.exec exec
  pub loads_read : AllZip (IsLoad held) words.loads loads

-- Files are set up, and a server of their tables ran: it carried out the statements of the exec file, served so many connections, which
-- came at the address in its words, and ended so.
pub record Ends (schema exec : List ℕ) (loads : List Load) (words : ServeWords) (ending : Ending) (old new : Linking) (before after : Writing) : Type 0 where
  pub tables : Stored
  pub statements : List (List ℕ)
  pub sets_up : SetsUp schema exec loads tables statements
  pub ran : Ran (first_database tables.schema words.log tables.rows) statements words.address words.count ending old new before after

-- the same, of files that were read
pub record Served (held : List ℕ → Option (List ℕ)) (words : ServeWords) (ending : Ending) (old new : Linking) (before after : Writing) : Type 0 where
  pub schema : List ℕ
  pub exec : List ℕ
  pub loads : List Load
  pub files : AreFiles held words schema exec loads
  pub ends : Ends schema exec loads words ending old new before after

-- A server of their tables ran until memory was refused: what it sent and wrote begins what the rules give.
pub record EndsInPart (schema exec : List ℕ) (loads : List Load) (words : ServeWords) (old new : Linking) (before after : Writing) : Type 0 where
  pub tables : Stored
  pub statements : List (List ℕ)
  pub sets_up : SetsUp schema exec loads tables statements
  pub ran : RanInPart (first_database tables.schema words.log tables.rows) statements words.address words.count old new before after

-- the same, of files that were read
pub record ServedInPart (held : List ℕ → Option (List ℕ)) (words : ServeWords) (old new : Linking) (before after : Writing) : Type 0 where
  pub schema : List ℕ
  pub exec : List ℕ
  pub loads : List Load
  pub files : AreFiles held words schema exec loads
  pub ends : EndsInPart schema exec loads words old new before after

-- ---- refusals

-- files were read, and their first line that is outside the grammar of its file is this one, with its fault at this place
pub record IsOutside (held : List ℕ → Option (List ℕ)) (words : ServeWords) (line place : ℕ) : Type 0 where
  pub schema : List ℕ
  pub exec : List ℕ
  pub loads : List Load
  pub files : AreFiles held words schema exec loads
  pub first : outside schema exec ≡ Some (record { line = line; place = place })

-- files were read, and the first CREATE line that is refused is this one, with this fault
pub record IsRefusedCreate (held : List ℕ → Option (List ℕ)) (words : ServeWords) (line : ℕ) (fault : Fault) : Type 0 where
  pub schema : List ℕ
  pub exec : List ℕ
  pub loads : List Load
  pub files : AreFiles held words schema exec loads
  pub refuses : RefusesCreate schema exec line fault

-- files were read, and the one for the table of this name is the first that is refused, with this fault
pub record IsRefusedLoad (held : List ℕ → Option (List ℕ)) (words : ServeWords) (table : List ℕ) (fault : Fault) : Type 0 where
  pub schema : List ℕ
  pub exec : List ℕ
  pub loads : List Load
  pub files : AreFiles held words schema exec loads
  pub refuses : RefusesLoad schema exec loads table fault

-- ---- the error output

-- the line that is outside the grammar was named on the error output, with the place of its fault
pub record NamedLine (held : List ℕ → Option (List ℕ)) (words : ServeWords) (old new : Option (List ℕ)) : Type 0 where
  pub line : ℕ
  pub place : ℕ
  pub refused : IsOutside held words line place
  pub said : new ≡ complained (line_text line place) old

-- the refused CREATE line was named on the error output, with its fault
pub record NamedCreate (held : List ℕ → Option (List ℕ)) (words : ServeWords) (old new : Option (List ℕ)) : Type 0 where
  pub line : ℕ
  pub fault : Fault
  pub refused : IsRefusedCreate held words line fault
  pub said : new ≡ complained (setup_text line fault) old

-- the table of the refused file was named on the error output, with the fault
pub record NamedLoad (held : List ℕ → Option (List ℕ)) (words : ServeWords) (old new : Option (List ℕ)) : Type 0 where
  pub table : List ℕ
  pub fault : Fault
  pub refused : IsRefusedLoad held words table fault
  pub said : new ≡ complained (load_text table fault) old

-- ---- a host without faults

-- the exec file that is held: no bytes, where none is named
abbrev pub IsHeldExec : (List ℕ → Option (List ℕ)) → Option (List ℕ) → List ℕ → Type 0
IsHeldExec held None exec = exec ≡ []
IsHeldExec held (Some name) exec = held name ≡ Some exec

-- the host holds all the files, and these are they
pub record AreHeld (held : List ℕ → Option (List ℕ)) (words : ServeWords) (schema exec : List ℕ) (loads : List Load) : Type 0 where
  pub schema_held : held words.schema ≡ Some schema
  pub exec_held : IsHeldExec held words.exec exec
  pub loads_held : AllZip (IsHeldLoad held) words.loads loads

-- it does not hold them all
abbrev pub AreNotHeld : (List ℕ → Option (List ℕ)) → ServeWords → Type 0
AreNotHeld held words = (schema exec : List ℕ) (loads : List Load) → ¬ AreHeld held words schema exec loads

-- one of the files has more bytes than the limit
abbrev pub AreLong : List ℕ → List ℕ → List Load → Type 0
AreLong schema exec loads = IsLong schema ⊎ IsLong exec ⊎ SomeLong loads

-- a server ran
abbrev pub DidRun : ℕ → Type 0
DidRun status = (status ≡ 0) ⊎ (status ≡ 4) ⊎ (status ≡ 5)

-- what a host without faults that holds the files lets the status be
pub record FitsFiles (schema exec : List ℕ) (loads : List Load) (status : ℕ) : Type 0 where
  pub no_read_fault : ¬ (status ≡ 3)
  pub long : AreLong schema exec loads → (status ≡ 9) ⊎ (status ≡ 10)
  pub too_long : status ≡ 10 → AreLong schema exec loads
  pub line : status ≡ 6 → (at : LinePlace) × (outside schema exec ≡ Some at)
  pub refused : status ≡ 7 → ((line : ℕ) × (fault : Fault) × RefusesCreate schema exec line fault)
      ⊎ ((table : List ℕ) × (fault : Fault) × RefusesLoad schema exec loads table fault)
  pub inside : DidRun status → outside schema exec ≡ None
  pub accepts : DidRun status → (line : ℕ) (fault : Fault) → ¬ RefusesCreate schema exec line fault
  pub accepts_loads : DidRun status → (table : List ℕ) (fault : Fault) → ¬ RefusesLoad schema exec loads table fault

-- ---- a run

-- What `serve` does over a host, by the status that it ends with.
pub record Serves (H : Type 0) (held : H → List ℕ → Option (List ℕ)) (reading : H → Reading) (writing : H → Writing) (linking : H → Linking)
    (complaints : H → Option (List ℕ)) (IsSteady : H → Type 0) (old new : H) (words : ServeWords) (status : ℕ) : Type 0 where
  pub only : (status ≡ 0) ⊎ (status ≡ 3) ⊎ (status ≡ 4) ⊎ (status ≡ 5) ⊎ (status ≡ 6) ⊎ (status ≡ 7) ⊎ (status ≡ 9) ⊎ (status ≡ 10)
  pub whole : status ≡ 0 → Served (held old) words Whole (linking old) (linking new) (writing old) (writing new)
  pub unwritten : status ≡ 4 → Served (held old) words Unwritten (linking old) (linking new) (writing old) (writing new)
  pub faulty : status ≡ 5 → Served (held old) words Faulty (linking old) (linking new) (writing old) (writing new)
  pub in_want : status ≡ 9 → Untouched (linking old) (linking new) (writing old) (writing new)
      ⊎ ServedInPart (held old) words (linking old) (linking new) (writing old) (writing new)
  pub too_long : status ≡ 10 → SomeTooLong (held old) (reading new).left (files_of words)
  pub line : status ≡ 6 → NamedLine (held old) words (complaints old) (complaints new)
  pub refused : status ≡ 7 → NamedCreate (held old) words (complaints old) (complaints new) ⊎ NamedLoad (held old) words (complaints old) (complaints new)
  pub steady : IsSteady old → (schema exec : List ℕ) (loads : List Load) → AreHeld (held old) words schema exec loads → FitsFiles schema exec loads status
  pub steady_writes : IsSteady old → ¬ (status ≡ 4)
  pub steady_links : IsSteady old → HasPeers words.count (linking old) → ¬ (status ≡ 5)
  pub link_fault_is_counted : status ≡ 5 → Rose (linking old).faults (linking new).faults
  pub quiet : status ≡ 0 → (linking new).faults ≡ (linking old).faults

-- ---- inside the crate

-- what is said of files that are refused
abbrev pub refusal_of : No SetupFault → Refusal
refusal_of Wanting = refusal.Memory
refusal_of (NoBut (setup.Line line place)) = refusal.Line line place
refusal_of (NoBut (setup.Create line fault)) = refusal.Setup line fault
refusal_of (NoBut (setup.Load table fault)) = refusal.Load table fault

-- what a server that ended so comes to
abbrev pub Ended : Result Ending NoMemory → Result (Unit {0}) Refusal → Type 0
Ended (Ok Whole) result = IsOk result
Ended (Ok Faulty) result = result ≡ Err refusal.Link
Ended (Ok Unwritten) result = result ≡ Err refusal.Write
Ended (Err wants) result = result ≡ Err refusal.Memory

-- why files that were read are not served
abbrev pub Refuses : List ℕ → List ℕ → List Load → ServeWords → Linking → Linking → Writing → Writing → Refusal → Type 0
Refuses schema exec loads words old new before after refusal.Write = Ends schema exec loads words Unwritten old new before after
Refuses schema exec loads words old new before after refusal.Link = Ends schema exec loads words Faulty old new before after
Refuses schema exec loads words old new before after refusal.Memory = Untouched old new before after ⊎ EndsInPart schema exec loads words old new before after
Refuses schema exec loads words old new before after (refusal.Line line place) = outside schema exec ≡ Some (record { line = line; place = place })
Refuses schema exec loads words old new before after (refusal.Setup line fault) = RefusesCreate schema exec line fault
Refuses schema exec loads words old new before after (refusal.Load table fault) = RefusesLoad schema exec loads table fault
Refuses schema exec loads words old new before after other = ⊥

-- why a run is refused, by the files that the words name
abbrev pub RefusesOver : (List ℕ → Option (List ℕ)) → ServeWords → Option (List ℕ) → Linking → Linking → Writing → Writing → Refusal → Type 0
RefusesOver held words left old new before after refusal.Read = Unit {0}
RefusesOver held words left old new before after refusal.TooLong = SomeTooLong held left (files_of words)
RefusesOver held words left old new before after refusal.Write = Served held words Unwritten old new before after
RefusesOver held words left old new before after refusal.Link = Served held words Faulty old new before after
RefusesOver held words left old new before after refusal.Memory = Untouched old new before after ⊎ ServedInPart held words old new before after
RefusesOver held words left old new before after (refusal.Line line place) = IsOutside held words line place
RefusesOver held words left old new before after (refusal.Setup line fault) = IsRefusedCreate held words line fault
RefusesOver held words left old new before after (refusal.Load table fault) = IsRefusedLoad held words table fault
