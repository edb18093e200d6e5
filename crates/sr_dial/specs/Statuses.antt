-- What the program says of how a run ended.
use Rattle.std.specs.Prelude.{ℕ, List, [], ◌∷◌, codes, decimal}
use Rattle.sr_wire.specs.declared.bad_frame.BadFrame.{BadFrame}
use Rattle.sr_wire.specs.declared.bad_frame.BadFrame.TheVariants as bad
use Rattle.sr_wire.specs.declared.wire_fault.WireFault.{WireFault}
use Rattle.sr_wire.specs.declared.wire_fault.WireFault.TheVariants as wire
use Rattle.sr_dial.specs.declared.ending.Ending.{Ending}
use Rattle.sr_dial.specs.declared.ending.Ending.TheVariants.{Whole, Faulty, Unwritten, Spoiled, Bad, Limit}

abbrev pub status_of : Ending → ℕ
status_of Whole = 0
status_of Unwritten = 4
status_of Faulty = 5
status_of (Spoiled fault) = 8
status_of (Bad why) = 8
status_of Limit = 11

-- ---- the words of the error line

abbrev pub fault_words : WireFault → List (List ℕ)
fault_words wire.Short = codes "short" ∷ []
fault_words (wire.Long length) = codes "long" ∷ decimal length ∷ []
fault_words (wire.Kind byte) = codes "kind" ∷ decimal byte ∷ []
fault_words (wire.Field place) = codes "field" ∷ decimal place ∷ []

abbrev pub why_words : BadFrame → List (List ℕ)
why_words bad.Direction = codes "direction" ∷ []
why_words bad.State = codes "state" ∷ []
why_words bad.Number = codes "number" ∷ []
why_words bad.Version = codes "version" ∷ []
why_words bad.Shape = codes "shape" ∷ []

-- none where the work was done; that a frame is short is never a reason
abbrev pub error_words : Ending → List (List ℕ)
error_words Whole = []
error_words Unwritten = codes "write" ∷ []
error_words Faulty = codes "link" ∷ []
error_words (Spoiled fault) = codes "frame" ∷ fault_words fault
error_words (Bad why) = codes "frame" ∷ why_words why
error_words Limit = codes "too" ∷ codes "many" ∷ codes "frames" ∷ []
