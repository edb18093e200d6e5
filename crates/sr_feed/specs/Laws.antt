-- What is true of streams, however they are cut.
use Rattle.std.specs.Prelude.{◌≡◌, ◌≢◌, ℕ, List, [], ◌∷◌, ◌++◌, length, drop}
use Rattle.sr_message.specs.declared.message.Message.{Message}
use Rattle.sr_wire.specs.declared.wire_fault.WireFault.{WireFault}
use Rattle.sr_wire.specs.declared.wire_fault.WireFault.TheVariants.{Short}
use Rattle.sr_wire.specs.Reading.{decoded, Whole, Faulty}
use Rattle.sr_wire.specs.Spelling.{spelling}
use Rattle.sr_feed.specs.Stream.{Splits}

-- a stream has one list of frames, with one rest
abbrev pub SplitsOnce : Type 0
SplitsOnce = (stream : List ℕ) (ms ks : List Message) (a b : List ℕ) (f g : WireFault)
    → Splits stream ms a f → Splits stream ks b g → (ms ≡ ks) × (a ≡ b) × (f ≡ g)

-- a fault stands at its place for ever, and no frame comes behind it
abbrev pub FaultsStay : Type 0
FaultsStay = (stream more : List ℕ) (ms : List Message) (rest : List ℕ) (fault : WireFault)
    → fault ≢ Short → Splits stream ms rest fault → Splits (stream ++ more) ms (rest ++ more) fault

-- the frame in front of a stream is the first of its list, and behind it stand the others
pub record AreInOrder (stream : List ℕ) (m : Message) (ms : List Message) (rest : List ℕ) (fault : WireFault) : Type 0 where
  pub first : decoded stream ≡ Whole m (length (spelling m))
  pub others : Splits (drop (length (spelling m)) stream) ms rest fault

abbrev pub FramesInOrder : Type 0
FramesInOrder = (stream : List ℕ) (m : Message) (ms : List Message) (rest : List ℕ) (fault : WireFault)
    → Splits stream (m ∷ ms) rest fault → AreInOrder stream m ms rest fault

-- where a list is empty, no frame stands in front
abbrev pub NoneInFront : Type 0
NoneInFront = (stream rest : List ℕ) (fault : WireFault) → Splits stream [] rest fault → decoded stream ≡ Faulty fault
