-- What `explain` does, and why it ends with each status.
use Rattle.std.specs.Prelude.{◌≡◌, ℕ, ◌⊎◌, List, [], Option, Some, None}
use Rattle.sr_cell.specs.declared.fault.Fault.{Fault}
use Rattle.sr_lines.specs.Lines.{lines_of}
use Rattle.sr_lines.specs.Script.{LinePlace, FirstRefused}
use Rattle.sr_io.specs.Told.{Reading, Writing, Linking, complained}
use Rattle.sr_world.specs.declared.world.Options.{Options}
use Rattle.sr_world.specs.Replay.{outside}
use Rattle.sr_explained.specs.After.{WroteBehind, WrotePart}
use Rattle.sr_words.specs.declared.command.ExplainWords.{ExplainWords}
use Rattle.sr_cli.specs.Errors.{line_text, setup_text}
use Rattle.sr_cli.specs.Files.{IsLong, IsTooLong, IsWhatIsHeld}
use Rattle.sr_cli.specs.Replay.{options_of}
use Rattle.sr_cli.specs.declared.report.Refusal.{Refusal}
use Rattle.sr_cli.specs.declared.report.Refusal.TheVariants as refusal

-- the lines were written that explain the query of the words behind this script
abbrev pub WroteScript : ExplainWords → List ℕ → Option (List ℕ) → Option (List ℕ) → Type 0
WroteScript words script old new = WroteBehind old new (options_of words.setup) script [] words.sql

-- or a prefix of them
abbrev pub WroteSome : ExplainWords → List ℕ → Option (List ℕ) → Option (List ℕ) → Type 0
WroteSome words script old new = WrotePart old new (options_of words.setup) script [] words.sql

-- the script was read, and the lines that explain the query behind it were written
pub record Explained (held : List ℕ → Option (List ℕ)) (words : ExplainWords) (old new : Option (List ℕ)) : Type 0 where
  pub script : List ℕ
  pub read : IsWhatIsHeld (held words.script) script
  pub wrote : WroteScript words script old new

-- the script was read, and a prefix of these lines was written
pub record ExplainedInPart (held : List ℕ → Option (List ℕ)) (words : ExplainWords) (old new : Option (List ℕ)) : Type 0 where
  pub script : List ℕ
  pub read : IsWhatIsHeld (held words.script) script
  pub wrote : WroteSome words script old new

-- ---- refusals

-- the script was read, and its first line that is outside the grammar is this one, with its fault at this place
pub record IsOutside (held : List ℕ → Option (List ℕ)) (words : ExplainWords) (line place : ℕ) : Type 0 where
  pub script : List ℕ
  pub read : IsWhatIsHeld (held words.script) script
  pub first : outside words.setup.clients script ≡ Some (record { line = line; place = place })

-- the script was read, no line is outside the grammar, and its first CREATE line that is refused is this one, with this fault
pub record IsRefusedSetup (held : List ℕ → Option (List ℕ)) (words : ExplainWords) (line : ℕ) (fault : Fault) : Type 0 where
  pub script : List ℕ
  pub read : IsWhatIsHeld (held words.script) script
  pub inside : outside words.setup.clients script ≡ None
  pub first : FirstRefused words.setup.clients 1 [] (lines_of script) line fault

-- ---- the error output

-- the line that is outside the grammar was named on the error output, with the place of its fault
pub record NamedLine (held : List ℕ → Option (List ℕ)) (words : ExplainWords) (old new : Option (List ℕ)) : Type 0 where
  pub line : ℕ
  pub place : ℕ
  pub refused : IsOutside held words line place
  pub said : new ≡ complained (line_text line place) old

-- the refused CREATE line was named on the error output, with its fault
pub record NamedSetup (held : List ℕ → Option (List ℕ)) (words : ExplainWords) (old new : Option (List ℕ)) : Type 0 where
  pub line : ℕ
  pub fault : Fault
  pub refused : IsRefusedSetup held words line fault
  pub said : new ≡ complained (setup_text line fault) old

-- ---- a host without faults

-- what a host without faults that holds the script lets the status be
pub record FitsScript (options : Options) (script sql : List ℕ) (status : ℕ) : Type 0 where
  pub no_read_fault : ¬ (status ≡ 3)
  pub no_write_fault : ¬ (status ≡ 4)
  pub long : IsLong script → (status ≡ 9) ⊎ (status ≡ 10)
  pub too_long : status ≡ 10 → IsLong script
  pub line : status ≡ 6 → (at : LinePlace) × (outside options.clients script ≡ Some at)
  pub inside : (status ≡ 0) ⊎ (status ≡ 7) → outside options.clients script ≡ None
  pub refused : status ≡ 7 → (line : ℕ) × (fault : Fault) × FirstRefused options.clients 1 [] (lines_of script) line fault
  pub accepts : status ≡ 0 → (line : ℕ) (fault : Fault) → ¬ FirstRefused options.clients 1 [] (lines_of script) line fault

-- ---- a run

-- What `explain` does over a host, by the status that it ends with.
pub record Explains (H : Type 0) (held : H → List ℕ → Option (List ℕ)) (reading : H → Reading) (writing : H → Writing) (linking : H → Linking)
    (complaints : H → Option (List ℕ)) (IsSteady : H → Type 0) (old new : H) (words : ExplainWords) (status : ℕ) : Type 0 where
  pub only : (status ≡ 0) ⊎ (status ≡ 3) ⊎ (status ≡ 4) ⊎ (status ≡ 6) ⊎ (status ≡ 7) ⊎ (status ≡ 9) ⊎ (status ≡ 10)
  pub explained : status ≡ 0 → Explained (held old) words (writing old).written (writing new).written
  pub part_after_fault : status ≡ 4 → ExplainedInPart (held old) words (writing old).written (writing new).written
  pub part_in_want : status ≡ 9 → (writing new ≡ writing old) ⊎ ExplainedInPart (held old) words (writing old).written (writing new).written
  pub too_long : status ≡ 10 → IsTooLong (held old words.script) (reading new).left
  pub line : status ≡ 6 → NamedLine (held old) words (complaints old) (complaints new)
  pub refused : status ≡ 7 → NamedSetup (held old) words (complaints old) (complaints new)
  pub writing_keeps_faults : (status ≡ 4) ⊎ ((writing new).faults ≡ (writing old).faults)
  pub steady : IsSteady old → (script : List ℕ) → held old words.script ≡ Some script → FitsScript (options_of words.setup) script words.sql status
  pub linking_stays : linking new ≡ linking old

-- ---- inside the crate

-- why the query behind a script that was read is not explained
abbrev pub Refuses : ExplainWords → List ℕ → Writing → Writing → Refusal → Type 0
Refuses words script before after refusal.Write = WroteSome words script before.written after.written
Refuses words script before after refusal.Memory = (after ≡ before) ⊎ WroteSome words script before.written after.written
Refuses words script before after (refusal.Line line place) = outside words.setup.clients script ≡ Some (record { line = line; place = place })
Refuses words script before after (refusal.Setup line fault) =
    (outside words.setup.clients script ≡ None) × FirstRefused words.setup.clients 1 [] (lines_of script) line fault
Refuses words script before after other = ⊥

-- why it is not, by the script that the words name
abbrev pub RefusesOver : (List ℕ → Option (List ℕ)) → ExplainWords → Option (List ℕ) → Writing → Writing → Refusal → Type 0
RefusesOver held words left before after refusal.Read = Unit {0}
RefusesOver held words left before after refusal.TooLong = IsTooLong (held words.script) left
RefusesOver held words left before after refusal.Link = ⊥
RefusesOver held words left before after refusal.Write = ExplainedInPart held words before.written after.written
RefusesOver held words left before after refusal.Memory = (after ≡ before) ⊎ ExplainedInPart held words before.written after.written
RefusesOver held words left before after (refusal.Line line place) = IsOutside held words line place
RefusesOver held words left before after (refusal.Setup line fault) = IsRefusedSetup held words line fault
RefusesOver held words left before after (refusal.Load table fault) = ⊥
