-- What a step sends and says.
use Rattle.std.specs.Prelude.{◌≡◌, ◌≤◌, Bool, true, false, List, [], ◌⊎◌, ℕ}
use Rattle.std.specs.Io.KnownBytes.{Appends}
use Rattle.sr_io.specs.Causes.{Rose}
use Rattle.sr_io.specs.Pieces.{SendsPart, WritesPrefix}
use Rattle.sr_io.specs.Told.{Linking, Writing, sent_on}
use Rattle.sr_talk.specs.Moves.{SendsAs}
use Rattle.sr_dial.specs.declared.steps.Handed.{Handed}
use Rattle.sr_dial.specs.declared.steps.Handed.TheVariants.{Whole, Broken, Unwritten}

-- what is written of a text: all of it; or nothing, where a run writes no lines
abbrev pub spoken : Bool → List ℕ → List ℕ
spoken true text = text
spoken false text = []

-- All of that is written; or, where a run writes its lines, a beginning of the text, and a fault is counted.
abbrev pub SaysAs : Bool → Bool → Writing → Writing → List ℕ → Type 0
SaysAs says true before after text = Appends before.written after.written (spoken says text) × (after.faults ≡ before.faults)
SaysAs says false before after text = (says ≡ true) × WritesPrefix before.written after.written text × Rose before.faults after.faults

-- Out of memory a beginning of that is written, and no fault is counted.
abbrev pub SaysInPart : Bool → Writing → Writing → List ℕ → Type 0
SaysInPart says before after text = WritesPrefix before.written after.written (spoken says text) × (after.faults ≡ before.faults)

-- Out of memory all or some of the bytes are sent, and a beginning of the text is written.
abbrev pub CarriesInPart : Bool → Linking → Linking → Writing → Writing → List ℕ → List ℕ → Type 0
CarriesInPart says l new before after bytes text =
    ((new ≡ sent_on bytes l) ⊎ (SendsPart l new bytes × (l.faults ≤ new.faults))) × SaysInPart says before after text

-- the bytes are sent, all or some of them, and the text is written or not
abbrev pub Carries : Bool → Handed → Linking → Linking → Writing → Writing → List ℕ → List ℕ → Type 0
Carries says Whole l new before after bytes text = SendsAs true l new bytes × SaysAs says true before after text
Carries says Broken l new before after bytes text = SendsAs false l new bytes × SaysAs says true before after text
Carries says Unwritten l new before after bytes text = (SendsAs true l new bytes ⊎ SendsAs false l new bytes) × SaysAs says false before after text
