-- A stream, frame by frame.
use Rattle.std.specs.Prelude.{◌≡◌, ◌≢◌, ℕ, List, ◌++◌, length, Option, Some, None, Result, Ok, Err, IsTrue}
use Rattle.std.specs.List.{flat_map, list_all}
use Rattle.sr_message.specs.declared.message.Message.{Message}
use Rattle.sr_wire.specs.declared.wire_fault.WireFault.{WireFault}
use Rattle.sr_wire.specs.declared.wire_fault.WireFault.TheVariants.{Short}
use Rattle.sr_wire.specs.Spelling.{spelling, has_spelling}
use Rattle.sr_wire.specs.Reading.{Decoded, Whole, Faulty, decoded}

-- the frame in front, that it is not all there, or what stands against it
abbrev pub Gives : Result (Option Message) WireFault → Decoded → Type 0
Gives (Ok (Some message)) front = front ≡ Whole message (length (spelling message))
Gives (Ok None) front = front ≡ Faulty Short
Gives (Err fault) front = (front ≡ Faulty fault) × (fault ≢ Short)

abbrev pub IfGiven : Result (Option Message) WireFault → (Message → Type 0) → Type 0
IfGiven (Ok (Some message)) P = P message
IfGiven (Ok None) P = Unit {0}
IfGiven (Err fault) P = Unit {0}

-- these messages' frames one behind the other, and then no whole frame
pub record Splits (stream : List ℕ) (messages : List Message) (rest : List ℕ) (fault : WireFault) : Type 0 where
  pub whole : stream ≡ flat_map spelling messages ++ rest
  pub each : IsTrue (list_all has_spelling messages)
  pub ends : decoded rest ≡ Faulty fault
