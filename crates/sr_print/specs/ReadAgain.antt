-- What a text says is said again by its printed form, where that is not too long.
use Rattle.std.specs.Prelude.{ℕ, List, ◌≤◌, length, Ok}
use Rattle.sr_grammar.specs.Trees.{Statement}
use Rattle.sr_grammar.specs.Says.{Says}
use Rattle.sr_grammar.specs.Spaced.{printed}
use Rattle.sr_grammar.specs.Places.{AreSame}

-- some text says this statement
abbrev pub IsSaid : Statement → Type 0
IsSaid s = (text : List ℕ) × Says text (Ok s)

-- this text says it, but for places
abbrev pub SaysSame : List ℕ → Statement → Type 0
SaysSame text s = (t : Statement) × Says text (Ok t) × AreSame t s

-- what is said is said again by a text that is not too long
abbrev pub SaysAgain : List ℕ → Statement → Type 0
SaysAgain text s = IsSaid s → length text ≤ 65536 → SaysSame text s

abbrev pub ReadAgain : Type 0
ReadAgain = (text : List ℕ) (s : Statement) → Says text (Ok s) → length (printed s) ≤ 65536 → SaysSame (printed s) s
