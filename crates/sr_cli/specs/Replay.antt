-- What `replay` does, and why it ends with each status.
use Rattle.std.specs.Prelude.{◌≡◌, ℕ, ◌⊎◌, List, [], ◌∷◌, Option, Some, None}
use Rattle.std.specs.List.{AllZip}
use Rattle.sr_cell.specs.declared.fault.Fault.{Fault}
use Rattle.sr_lines.specs.Lines.{lines_of}
use Rattle.sr_lines.specs.Script.{LinePlace, FirstRefused}
use Rattle.sr_load.specs.declared.fill.Load.{Load}
use Rattle.sr_io.specs.Told.{Reading, Writing, Linking, complained}
use Rattle.sr_world.specs.declared.world.Options.{Options}
use Rattle.sr_world.specs.declared.world.World.{World}
use Rattle.sr_world.specs.Replay.{RefusesLoad, Wrote, WrotePart, outside}
use Rattle.sr_words.specs.declared.command.ReplayWords.{ReplayWords}
use Rattle.sr_words.specs.declared.command.Setup.{Setup}
use Rattle.sr_cli.specs.Files.{IsWhatIsHeld, IsLoad, SomeTooLong, IsHeldLoad, IsLong, SomeLong, names_of}
use Rattle.sr_cli.specs.Errors.{line_text, setup_text, load_text}
use Rattle.sr_cli.specs.declared.report.Refusal.{Refusal}
use Rattle.sr_cli.specs.declared.report.Refusal.TheVariants as refusal

abbrev pub options_of : Setup → Options
options_of setup = record { eager = setup.eager; limits = setup.limits; log = setup.log; clients = setup.clients }

-- ---- the files

-- the names of all files, in the order in which they are read
abbrev pub files_of : ReplayWords → List (List ℕ)
files_of words = words.script ∷ names_of words.loads

-- what was read under the names: a script, and the files for the tables
pub record AreFiles (held : List ℕ → Option (List ℕ)) (words : ReplayWords) (script : List ℕ) (loads : List Load) : Type 0 where
  pub script_read : IsWhatIsHeld (held words.script) script
  pub loads_read : AllZip (IsLoad held) words.loads loads

-- files were read, and the whole trace was written
pub record Replayed (held : List ℕ → Option (List ℕ)) (words : ReplayWords) (old new : Option (List ℕ)) : Type 0 where
  pub script : List ℕ
  pub loads : List Load
  pub files : AreFiles held words script loads
  pub world : World
  pub wrote : Wrote old new (options_of words.setup) script loads world

-- files were read, and a prefix of the trace was written
pub record ReplayedInPart (held : List ℕ → Option (List ℕ)) (words : ReplayWords) (old new : Option (List ℕ)) : Type 0 where
  pub script : List ℕ
  pub loads : List Load
  pub files : AreFiles held words script loads
  pub wrote : WrotePart old new (options_of words.setup) script loads

-- ---- refusals

-- files were read, and the script's first line that is outside the grammar is this one, with its fault at this place
pub record IsOutside (held : List ℕ → Option (List ℕ)) (words : ReplayWords) (line place : ℕ) : Type 0 where
  pub script : List ℕ
  pub loads : List Load
  pub files : AreFiles held words script loads
  pub first : outside words.setup.clients script ≡ Some (record { line = line; place = place })

-- files were read, no line is outside the grammar, and the script's first CREATE line that is refused is this one, with this fault
pub record IsRefusedSetup (held : List ℕ → Option (List ℕ)) (words : ReplayWords) (line : ℕ) (fault : Fault) : Type 0 where
  pub script : List ℕ
  pub loads : List Load
  pub files : AreFiles held words script loads
  pub inside : outside words.setup.clients script ≡ None
  pub first : FirstRefused words.setup.clients 1 [] (lines_of script) line fault

-- files were read, and the one for the table of this name is the first that is refused, with this fault; no line is outside the grammar,
-- and no CREATE line is refused
pub record IsRefusedLoad (held : List ℕ → Option (List ℕ)) (words : ReplayWords) (table : List ℕ) (fault : Fault) : Type 0 where
  pub script : List ℕ
  pub loads : List Load
  pub files : AreFiles held words script loads
  pub inside : outside words.setup.clients script ≡ None
  pub refuses : RefusesLoad words.setup.clients script loads table fault

-- ---- the error output

-- the line that is outside the grammar was named on the error output, with the place of its fault
pub record NamedLine (held : List ℕ → Option (List ℕ)) (words : ReplayWords) (old new : Option (List ℕ)) : Type 0 where
  pub line : ℕ
  pub place : ℕ
  pub refused : IsOutside held words line place
  pub said : new ≡ complained (line_text line place) old

-- the refused CREATE line was named on the error output, with its fault
pub record NamedSetup (held : List ℕ → Option (List ℕ)) (words : ReplayWords) (old new : Option (List ℕ)) : Type 0 where
  pub line : ℕ
  pub fault : Fault
  pub refused : IsRefusedSetup held words line fault
  pub said : new ≡ complained (setup_text line fault) old

-- the table of the refused file was named on the error output, with the fault
pub record NamedLoad (held : List ℕ → Option (List ℕ)) (words : ReplayWords) (old new : Option (List ℕ)) : Type 0 where
  pub table : List ℕ
  pub fault : Fault
  pub refused : IsRefusedLoad held words table fault
  pub said : new ≡ complained (load_text table fault) old

-- ---- a host without faults

-- the host holds all the files, and these are they
pub record AreHeld (held : List ℕ → Option (List ℕ)) (words : ReplayWords) (script : List ℕ) (loads : List Load) : Type 0 where
  pub script_held : held words.script ≡ Some script
  pub loads_held : AllZip (IsHeldLoad held) words.loads loads

-- it does not hold them all
abbrev pub AreNotHeld : (List ℕ → Option (List ℕ)) → ReplayWords → Type 0
AreNotHeld held words = (script : List ℕ) (loads : List Load) → ¬ AreHeld held words script loads

-- one of the files has more bytes than the limit
abbrev pub AreLong : List ℕ → List Load → Type 0
AreLong script loads = IsLong script ⊎ SomeLong loads

-- what a host without faults that holds the files lets the status be
pub record FitsFiles (clients : ℕ) (script : List ℕ) (loads : List Load) (status : ℕ) : Type 0 where
  pub no_read_fault : ¬ (status ≡ 3)
  pub no_write_fault : ¬ (status ≡ 4)
  pub long : AreLong script loads → (status ≡ 9) ⊎ (status ≡ 10)
  pub too_long : status ≡ 10 → AreLong script loads
  pub line : status ≡ 6 → (at : LinePlace) × (outside clients script ≡ Some at)
  pub inside : (status ≡ 0) ⊎ (status ≡ 7) → outside clients script ≡ None
  pub refused : status ≡ 7 → ((line : ℕ) × (fault : Fault) × FirstRefused clients 1 [] (lines_of script) line fault)
      ⊎ ((table : List ℕ) × (fault : Fault) × RefusesLoad clients script loads table fault)
  pub accepts : status ≡ 0 → (line : ℕ) (fault : Fault) → ¬ FirstRefused clients 1 [] (lines_of script) line fault
  pub loads_accepted : status ≡ 0 → (table : List ℕ) (fault : Fault) → ¬ RefusesLoad clients script loads table fault

-- ---- a run

-- What `replay` does over a host, by the status that it ends with.
pub record Replays (H : Type 0) (held : H → List ℕ → Option (List ℕ)) (reading : H → Reading) (writing : H → Writing) (linking : H → Linking)
    (complaints : H → Option (List ℕ)) (IsSteady : H → Type 0) (old new : H) (words : ReplayWords) (status : ℕ) : Type 0 where
  pub only : (status ≡ 0) ⊎ (status ≡ 3) ⊎ (status ≡ 4) ⊎ (status ≡ 6) ⊎ (status ≡ 7) ⊎ (status ≡ 9) ⊎ (status ≡ 10)
  pub replayed : status ≡ 0 → Replayed (held old) words (writing old).written (writing new).written
  pub part_after_fault : status ≡ 4 → ReplayedInPart (held old) words (writing old).written (writing new).written
  pub part_in_want : status ≡ 9 → (writing new ≡ writing old) ⊎ ReplayedInPart (held old) words (writing old).written (writing new).written
  pub too_long : status ≡ 10 → SomeTooLong (held old) (reading new).left (files_of words)
  pub line : status ≡ 6 → NamedLine (held old) words (complaints old) (complaints new)
  pub refused : status ≡ 7 → NamedSetup (held old) words (complaints old) (complaints new) ⊎ NamedLoad (held old) words (complaints old) (complaints new)
  pub writing_keeps_faults : (status ≡ 4) ⊎ ((writing new).faults ≡ (writing old).faults)
  pub steady : IsSteady old → (script : List ℕ) (loads : List Load) → AreHeld (held old) words script loads → FitsFiles words.setup.clients script loads status
  pub linking_stays : linking new ≡ linking old

-- ---- inside the crate

-- the trace of a script and files that were read was written, whatever world it ended in
abbrev pub WroteTrace : Option (List ℕ) → Option (List ℕ) → Options → List ℕ → List Load → Type 0
WroteTrace old new options script loads = (world : World) × Wrote old new options script loads world

-- why files that were read are not replayed
abbrev pub Refuses : Options → List ℕ → List Load → Writing → Writing → Refusal → Type 0
Refuses options script loads before after refusal.Write = WrotePart before.written after.written options script loads
Refuses options script loads before after refusal.Memory = (after ≡ before) ⊎ WrotePart before.written after.written options script loads
Refuses options script loads before after (refusal.Line line place) = outside options.clients script ≡ Some (record { line = line; place = place })
Refuses options script loads before after (refusal.Setup line fault) =
    (outside options.clients script ≡ None) × FirstRefused options.clients 1 [] (lines_of script) line fault
Refuses options script loads before after (refusal.Load table fault) =
    (outside options.clients script ≡ None) × RefusesLoad options.clients script loads table fault
Refuses options script loads before after other = ⊥

-- why a replay is refused, by the files that the words name
abbrev pub RefusesOver : (List ℕ → Option (List ℕ)) → ReplayWords → Option (List ℕ) → Writing → Writing → Refusal → Type 0
RefusesOver held words left before after refusal.Read = Unit {0}
RefusesOver held words left before after refusal.TooLong = SomeTooLong held left (files_of words)
RefusesOver held words left before after refusal.Link = ⊥
RefusesOver held words left before after refusal.Write = ReplayedInPart held words before.written after.written
RefusesOver held words left before after refusal.Memory = (after ≡ before) ⊎ ReplayedInPart held words before.written after.written
RefusesOver held words left before after (refusal.Line line place) = IsOutside held words line place
RefusesOver held words left before after (refusal.Setup line fault) = IsRefusedSetup held words line fault
RefusesOver held words left before after (refusal.Load table fault) = IsRefusedLoad held words table fault
