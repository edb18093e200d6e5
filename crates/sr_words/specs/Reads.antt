-- What a function that reads words answers.
use Rattle.std.specs.Prelude.{◌≡◌, Option, Some, None, Result, Ok, Err}
use Rattle.sr_words.specs.declared.fault.WordsFault.{WordsFault}
use Rattle.sr_words.specs.declared.fault.WordsFault.TheVariants.{NotInForm, NoMemory}

-- just what is said; a fault where nothing is; or out of memory
abbrev pub Reads : {T : Type 0} → Option T → Result T WordsFault → Type 0
Reads said (Ok value) = said ≡ Some value
Reads said (Err NotInForm) = said ≡ None
Reads said (Err NoMemory) = Unit {0}
