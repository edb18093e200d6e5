-- What `generate` does, and why it ends with each status.
use Rattle.std.specs.Prelude.{◌≡◌, ℕ, ◌⊎◌, List, Option, true, false, Result, Ok, Err, IsOk}
use Rattle.std.specs.Io.KnownBytes.{Appends}
use Rattle.sr_cell.specs.declared.list.No.{No}
use Rattle.sr_cell.specs.declared.list.No.TheVariants.{Refused as NoBut, NoMemory as Wanting}
use Rattle.sr_generate.specs.Script.{script}
use Rattle.sr_io.specs.Pieces.{WritesPrefix}
use Rattle.sr_io.specs.declared.outside.Failed.{Failed}
use Rattle.sr_io.specs.Told.{Reading, Writing, Linking}
use Rattle.sr_summary.specs.Summary.{Summarizes}
use Rattle.sr_words.specs.declared.command.GenerateWords.{GenerateWords}
use Rattle.sr_cli.specs.declared.report.Refusal.{Refusal}
use Rattle.sr_cli.specs.declared.report.Refusal.TheVariants as refusal

-- the script that the words ask for
abbrev pub script_of : GenerateWords → List ℕ
script_of words = script words.seed words.events

-- a summary of the script was written
pub record Summarized (script : List ℕ) (old new : Option (List ℕ)) : Type 0 where
  pub text : List ℕ
  pub summarizes : Summarizes script text
  pub written : Appends old new text

-- a prefix of one was written
pub record SummarizedInPart (script : List ℕ) (old new : Option (List ℕ)) : Type 0 where
  pub text : List ℕ
  pub summarizes : Summarizes script text
  pub written : WritesPrefix old new text

-- What `generate` does over a host, by the status that it ends with.
pub record Generates (H : Type 0) (reading : H → Reading) (writing : H → Writing) (linking : H → Linking) (IsSteady : H → Type 0) (old new : H)
    (words : GenerateWords) (status : ℕ) : Type 0 where
  pub only : (status ≡ 0) ⊎ (status ≡ 4) ⊎ (status ≡ 9)
  pub made : words.whole_script ≡ true → status ≡ 0 → Appends (writing old).written (writing new).written (script_of words)
  pub made_in_part : words.whole_script ≡ true → WritesPrefix (writing old).written (writing new).written (script_of words)
  pub summary : words.whole_script ≡ false → status ≡ 0 → Summarized (script_of words) (writing old).written (writing new).written
  pub summary_in_part : words.whole_script ≡ false → status ≡ 4 → SummarizedInPart (script_of words) (writing old).written (writing new).written
  pub summary_in_want : words.whole_script ≡ false → status ≡ 9 → (writing new ≡ writing old)
      ⊎ SummarizedInPart (script_of words) (writing old).written (writing new).written
  pub writing_keeps_faults : (status ≡ 4) ⊎ ((writing new).faults ≡ (writing old).faults)
  pub steady : IsSteady old → ¬ (status ≡ 4)
  pub reading_stays : reading new ≡ reading old
  pub linking_stays : linking new ≡ linking old

-- ---- inside the crate

-- why a script or its summary is not written, and what is
abbrev pub Refuses : GenerateWords → Writing → Writing → Refusal → Type 0
Refuses words before after refusal.Write = words.whole_script ≡ false → SummarizedInPart (script_of words) before.written after.written
Refuses words before after refusal.Memory = words.whole_script ≡ false → (after ≡ before) ⊎ SummarizedInPart (script_of words) before.written after.written
Refuses words before after other = ⊥

-- what writing that ended so comes to
abbrev pub Wrote : Result (Unit {0}) (No Failed) → Result (Unit {0}) Refusal → Type 0
Wrote (Ok done) result = IsOk result
Wrote (Err (NoBut why)) result = result ≡ Err refusal.Write
Wrote (Err Wanting) result = result ≡ Err refusal.Memory
