-- What reading up to the next frame takes and leaves.
use Rattle.std.specs.Prelude.{◌≡◌, ◌≢◌, ℕ, List, [], ◌++◌, IsTrue}
use Rattle.sr_io.specs.Causes.{Rose}
use Rattle.sr_io.specs.Told.{Linking, OnlyFaults, Brings, IsOver, taken_from}
use Rattle.sr_wire.specs.declared.wire_fault.WireFault.TheVariants.{Short}
use Rattle.sr_wire.specs.Reading.{decoded, Faulty}
use Rattle.sr_wire.specs.Spelling.{spelling, has_spelling}
use Rattle.sr_talk.specs.declared.frames.Next.{Next}
use Rattle.sr_talk.specs.declared.frames.Next.TheVariants.{Frame, End, Torn, Fault, Bad}
use Rattle.sr_talk.specs.declared.frames.Popped.{Popped}
use Rattle.sr_talk.specs.declared.frames.Popped.TheVariants.{Frame as PoppedFrame, Nothing, Bad as PoppedBad}

-- what stands in front of the bytes, and what is left of them
abbrev pub Pops : Popped → List ℕ → List ℕ → Type 0
Pops (PoppedFrame m) before after = (before ≡ spelling m ++ after) × IsTrue (has_spelling m)
Pops Nothing before after = (decoded before ≡ Faulty Short) × (after ≡ before)
Pops (PoppedBad fault) before after = (decoded before ≡ Faulty fault) × (fault ≢ Short) × (after ≡ before)

-- Some bytes were taken; what was left before, and these, are the frame and what is left.
pub record Reads (old new : Linking) (before frame after : List ℕ) : Type 0 where
  pub bytes : List ℕ
  pub brings : Brings old.present bytes
  pub is : new ≡ taken_from bytes old
  pub cut : before ++ bytes ≡ frame ++ after

-- Some bytes were taken, and then a fault was counted.
pub record ReadsAndFails (old new : Linking) (before after : List ℕ) : Type 0 where
  pub linking : Linking
  pub reads : Reads old linking before [] after
  pub rose : Rose old.faults new.faults
  pub only : OnlyFaults linking new

-- what came next, where these bytes were left before
abbrev pub Nexts : Next → Linking → Linking → List ℕ → List ℕ → Type 0
Nexts (Frame m) old new before after = Reads old new before (spelling m) after × IsTrue (has_spelling m)
Nexts End old new before after = Reads old new before [] after × (after ≡ []) × IsOver new.present
Nexts Torn old new before after = Reads old new before [] after × (after ≢ []) × (decoded after ≡ Faulty Short) × IsOver new.present
Nexts Fault old new before after = ReadsAndFails old new before after
Nexts (Bad fault) old new before after = Reads old new before [] after × (decoded after ≡ Faulty fault) × (fault ≢ Short)
