-- A text says just one thing.
use Rattle.std.specs.Prelude.{◌≡◌, ℕ, List, Result}
use Rattle.sr_cell.specs.declared.fault.Fault.{Fault}
use Rattle.sr_grammar.specs.Trees.{Statement}
use Rattle.sr_grammar.specs.Says.{Says}

abbrev pub EachSaysOne : Type 0
EachSaysOne = (text : List ℕ) (r s : Result Statement Fault) → Says text r → Says text s → r ≡ s

abbrev pub EachSaysSomething : Type 0
EachSaysSomething = (text : List ℕ) → (r : Result Statement Fault) × Says text r
