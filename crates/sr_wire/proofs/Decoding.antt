-- What the calls that decode answer.
use Rattle.std.proofs.Common.{◌≡◌, ℕ, ◌+◌, ◌≤◌, List, ◌++◌, length, take, drop, get_or, sym, ap, ◌∙◌}
use Rattle.std.specs.Prelude.{IsTrue, Result, Ok, Err, IfOk, IsOkAnd}
use Rattle.std.proofs.lemmas.List.{take-append-drop}
use Rattle.sr_cell.specs.Columns.{are_bytes}
use Rattle.sr_message.specs.declared.message.Message.{Message}
use Rattle.sr_wire.specs.declared.kind.FrameKind.{FrameKind}
use Rattle.sr_wire.specs.declared.wire_fault.WireFault.{WireFault}
use Rattle.sr_wire.specs.Spelling.{spelling, has_spelling}
use Rattle.sr_wire.specs.Kinds.{kind_at}
use Rattle.sr_wire.specs.Bodies.{Answers}
use Rattle.sr_wire.specs.Reading.{Whole, Faulty, decoded, in_frame, length_at, kind_in}
use Rattle.sr_wire.proofs.Frames.{decoded_spelled, decoded_again, frame_is, length_is, kind_is, kind_of_option, IsFrame}

pub first_of : (bytes : List ℕ) (r : Result Message WireFault) → IsTrue (are_bytes bytes) → Answers r (decoded bytes) → IfOk r (λ m. (rest : List ℕ) × (bytes ≡ spelling m ++ rest))
first_of bytes (Ok m) fits e =
    let size = length (spelling m) in
    let f = decoded_spelled bytes m size fits e in
    (drop size bytes, sym (take-append-drop size bytes) ∙ ap (λ (front : List ℕ). front ++ drop size bytes) f.is)
first_of bytes (Err fault) fits e = tt

pub has_of : (bytes : List ℕ) (r : Result Message WireFault) → IsTrue (are_bytes bytes) → Answers r (decoded bytes) → IfOk r (λ m. IsTrue (has_spelling m))
has_of bytes (Ok m) fits e = (decoded_spelled bytes m (length (spelling m)) fits e).has
has_of bytes (Err fault) fits e = tt

pub every_of : (bytes : List ℕ) (r : Result Message WireFault) (m : Message) (rest : List ℕ) → Answers r (decoded bytes) → IsTrue (has_spelling m) → bytes ≡ spelling m ++ rest
    → IsOkAnd r (λ k. k ≡ m)
every_of bytes (Ok k) m rest e h is = let again : Whole k (length (spelling k)) ≡ Whole m (length (spelling m)) = sym e ∙ ap decoded is ∙ decoded_again m rest h in cc
every_of bytes (Err fault) m rest e h is = let again : Faulty fault ≡ Whole m (length (spelling m)) = sym e ∙ ap decoded is ∙ decoded_again m rest h in absurd cc

-- a frame that was cut out of bytes whose length and kind are known
pub cut_is : (bytes : List ℕ) (n : ℕ) (kind : FrameKind) (m : Message) (size : ℕ) → IsTrue (are_bytes bytes) → length_at bytes ≡ Ok n → kind_in bytes ≡ Ok kind
    → n + 4 ≤ length bytes → in_frame kind (take (n + 4) bytes) ≡ Whole m size → IsFrame (take (n + 4) bytes) m size
cut_is bytes n kind m size fits is_length is_kind whole e =
    frame_is bytes n kind m size fits (length_is bytes n is_length)
    (kind_is (get_or bytes 4 0) kind (kind_of_option (get_or bytes 4 0) (kind_at (get_or bytes 4 0)) kind is_kind)) whole e
