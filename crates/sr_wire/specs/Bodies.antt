-- The message that a body shows, and what decoding answers.
use Rattle.std.specs.Prelude.{◌≡◌, ℕ, length, Option, Some, None, Result, Ok, Err}
use Rattle.sr_message.specs.declared.message.Message.{Message}
use Rattle.sr_message.specs.declared.message.Message.TheVariants as messages
use Rattle.sr_wire.specs.declared.body.Body.{Body}
use Rattle.sr_wire.specs.declared.body.Body.TheVariants.{Hello, Resume, Ask, Write, Welcome, Notice, Rows, Reply, Written, Refused, Lapse}
use Rattle.sr_wire.specs.declared.wire_fault.WireFault.{WireFault}
use Rattle.sr_wire.specs.Reading.{Decoded, Whole, Faulty}
use Rattle.sr_wire.specs.Spelling.{spelling}

abbrev pub message_of : Body → Message
message_of (Hello wire client number) = messages.Hello wire client number
message_of (Resume wire client number version holdings) = messages.Resume wire client number version holdings
message_of (Ask number fresh parts) = messages.Ask number fresh parts
message_of (Write number sql) = messages.Write number sql.now
message_of (Welcome number version kept) = messages.Welcome number version kept
message_of (Notice version told) = messages.Notice version told
message_of (Rows number part rows) = messages.Rows number part rows
message_of (Reply number version) = messages.Reply number version
message_of (Written number version) = messages.Written number version
message_of (Refused number fault) = messages.Refused number fault
message_of (Lapse version) = messages.Lapse version

-- the client that begins a session, or begins it again
abbrev pub client_of : Message → Option ℕ
client_of (messages.Hello wire client number) = Some client
client_of (messages.Resume wire client number version holdings) = Some client
client_of (messages.Ask number fresh parts) = None
client_of (messages.Write number sql) = None
client_of (messages.Welcome number version kept) = None
client_of (messages.Notice version told) = None
client_of (messages.Rows number part rows) = None
client_of (messages.Reply number version) = None
client_of (messages.Written number version) = None
client_of (messages.Refused number fault) = None
client_of (messages.Lapse version) = None

-- a call that gives a body of a frame of that size, or the fault
abbrev pub Decodes : {X : Type 0} → (X → Message) → ℕ → Result X WireFault → Decoded → Type 0
Decodes view size (Ok x) decoded = decoded ≡ Whole (view x) size
Decodes view size (Err fault) decoded = decoded ≡ Faulty fault

-- a call that gives a frame, or the fault
abbrev pub Answers : Result Message WireFault → Decoded → Type 0
Answers (Ok message) decoded = decoded ≡ Whole message (length (spelling message))
Answers (Err fault) decoded = decoded ≡ Faulty fault
