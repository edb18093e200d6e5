-- What reading, writing and sending piece by piece takes and leaves.
use Rattle.std.specs.Prelude.{◌≡◌, ℕ, ◌<◌, ◌≤◌, Bool, true, false, List, ◌++◌, length, take, Option}
use Rattle.std.specs.Io.KnownBytes.{Consumes, Appends, IsAtEnd}
use Rattle.sr_io.specs.Told.{Linking, OnlyFaults, sent_on}

-- one piece was read behind those before; `more` is false exactly at the end
pub record ReadsPiece (old new : Option (List ℕ)) (before after : List ℕ) (limit : ℕ) (more : Bool) : Type 0 where
  pub piece : List ℕ
  pub consumed : Consumes old new piece
  pub kept : after ≡ before ++ piece
  pub within : length after ≤ limit
  pub ended : more ≡ false → IsAtEnd new
  pub grows : more ≡ true → length before < length after

-- bytes that meet P are gone from the source
pub record Lost (old new : Option (List ℕ)) (P : List ℕ → Type 0) : Type 0 where
  pub bytes : List ℕ
  pub consumed : Consumes old new bytes
  pub which : P bytes

-- a prefix was written
pub record WritesPrefix (old new : Option (List ℕ)) (bytes : List ℕ) : Type 0 where
  pub count : ℕ
  pub within : count ≤ length bytes
  pub appended : Appends old new (take count bytes)

-- some of the bytes were sent, fewer than all of them
pub record SendsPart (old new : Linking) (bytes : List ℕ) : Type 0 where
  pub count : ℕ
  pub fewer : count < length bytes
  pub sent : OnlyFaults (sent_on (take count bytes) old) new
