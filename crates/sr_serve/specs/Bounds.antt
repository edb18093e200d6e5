-- How many bytes a connection may bring for one message.
use Rattle.std.specs.Prelude.{◌≡◌, ◌<◌, ◌≤◌, ℕ, true, List, length}
use Rattle.sr_message.specs.declared.message.Message.{Message}
use Rattle.sr_wire.specs.Spelling.{has_spelling, spelling}
use Rattle.sr_talk.specs.Serving.{IsShort}

-- the most bytes of a frame: four of its length, and those of the longest body
abbrev pub most_of_a_frame : ℕ
most_of_a_frame = 134217732

-- A frame has no more bytes, and while no whole frame is there, fewer are.
pub record AreBounded : Type 0 where
  pub frames : (m : Message) → has_spelling m ≡ true → length (spelling m) ≤ most_of_a_frame
  pub beginnings : (bytes : List ℕ) → IsShort bytes → length bytes < most_of_a_frame
