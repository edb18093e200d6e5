-- What a call has read that may want memory.
use Rattle.std.specs.Prelude.{◌≡◌, ℕ, List, ◌++◌, Result, Ok, Err}
use Rattle.sr_cell.specs.declared.list.No.{No}
use Rattle.sr_cell.specs.declared.list.No.TheVariants.{Refused, NoMemory}
use Rattle.sr_bytes.specs.declared.cursor.BadField.{BadField}
use Rattle.sr_bytes.specs.Reading.{Reading, Got, Bad}

-- The cursor stands at the rest: behind what was read, or before what is at fault. Out of memory nothing is said.
abbrev pub ReadsOr : {X : Type 0} → Result X (No BadField) → List ℕ → Reading X → Type 0
ReadsOr {X} (Ok x) rest reading = reading ≡ Got x rest
ReadsOr {X} (Err (Refused bad)) rest reading = reading ≡ Bad rest
ReadsOr {X} (Err NoMemory) rest reading = Unit {0}

-- the call answers just that, but out of memory
abbrev pub Answers : {X F : Type 0} → Result X (No F) → Result X F → Type 0
Answers {X} {F} (Ok x) answer = answer ≡ Ok x
Answers {X} {F} (Err (Refused fault)) answer = answer ≡ Err fault
Answers {X} {F} (Err NoMemory) answer = Unit {0}
