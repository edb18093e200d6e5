-- What is true of all spellings.
use Rattle.std.specs.Prelude.{◌≡◌, ℕ, List, [], ◌++◌, length, take, IsTrue}
use Rattle.sr_cell.specs.Columns.{are_bytes}
use Rattle.sr_message.specs.declared.message.Message.{Message}
use Rattle.sr_wire.specs.Spelling.{spelling, has_spelling}
use Rattle.sr_wire.specs.Reading.{decoded, Whole, Faulty}
use Rattle.sr_wire.specs.declared.wire_fault.WireFault.TheVariants.{Short}

-- no bytes spell two messages
abbrev pub OneMessage : Type 0
OneMessage = (m k : Message) → IsTrue (has_spelling m) → IsTrue (has_spelling k) → spelling m ≡ spelling k → m ≡ k

-- no message has two spellings: bytes that are decoded to it begin with the one
abbrev pub OneSpelling : Type 0
OneSpelling = (bytes : List ℕ) (m : Message) (size : ℕ) → IsTrue (are_bytes bytes) → decoded bytes ≡ Whole m size
    → IsTrue (has_spelling m) × (take size bytes ≡ spelling m) × (length (spelling m) ≡ size)

-- what is spelled is decoded, whatever stands behind it
abbrev pub IsDecodedAgain : Type 0
IsDecodedAgain = (m : Message) (rest : List ℕ) → IsTrue (has_spelling m) → decoded (spelling m ++ rest) ≡ Whole m (length (spelling m))

-- no spelling is the beginning of another
abbrev pub NoneBegins : Type 0
NoneBegins = (m k : Message) (rest : List ℕ) → IsTrue (has_spelling m) → IsTrue (has_spelling k) → spelling m ≡ spelling k ++ rest → (m ≡ k) × (rest ≡ [])

-- what does not wait for more bytes stays, whatever comes behind
abbrev pub AnswersStay : Type 0
AnswersStay = (bytes more : List ℕ) → (decoded bytes ≡ Faulty Short → ⊥) → decoded (bytes ++ more) ≡ decoded bytes
