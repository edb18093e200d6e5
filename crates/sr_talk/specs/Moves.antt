-- What goes over a link, and what stays.
use Rattle.std.specs.Prelude.{◌≡◌, ℕ, ◌≤◌, Bool, true, false, List, Option}
use Rattle.sr_io.specs.Causes.{Rose}
use Rattle.sr_io.specs.Pieces.{SendsPart}
use Rattle.sr_io.specs.Told.{Reading, Writing, Linking, sent_on}

-- What a call of a link leaves: what is read and written, what is held, and the error output. Its faults are only counted, and it stays
-- steady.
pub record OnlyLinks (L : Type 0) (reading : L → Reading) (writing : L → Writing) (linking : L → Linking) (held : L → List ℕ → Option (List ℕ)) (complaints : L → Option (List ℕ)) (IsSteady : L → Type 0) (old new : L) : Type 0 where
  pub stays_steady : IsSteady old → IsSteady new
  pub reading_stays : reading new ≡ reading old
  pub writing_stays : writing new ≡ writing old
  pub held_stays : held new ≡ held old
  pub complaints_stay : complaints new ≡ complaints old
  pub faults_never_fall : (linking old).faults ≤ (linking new).faults

-- All bytes were sent; or fewer, and a fault is counted.
abbrev pub SendsAs : Bool → Linking → Linking → List ℕ → Type 0
SendsAs true old new bytes = new ≡ sent_on bytes old
SendsAs false old new bytes = SendsPart old new bytes × Rose old.faults new.faults

-- Fewer were sent, and no fault is counted.
abbrev pub SendsInPart : Linking → Linking → List ℕ → Type 0
SendsInPart old new bytes = SendsPart old new bytes × (new.faults ≡ old.faults)
